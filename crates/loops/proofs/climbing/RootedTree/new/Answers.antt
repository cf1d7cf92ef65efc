use Rattle.loops.proofs.Noting.{spanned_orderly, noted_parented}
use Rattle.loops.proofs.climbing.RootedTree.new.Goals as goal

pub tree_parents-requires : goal.tree_parents-requires
tree_parents-requires c = spanned_orderly _ _ c.requires

pub invariant_of-result : goal.invariant_of-result
invariant_of-result c = record { parented = noted_parented _ _ c.requires _ c.tree_parents.ensures }
