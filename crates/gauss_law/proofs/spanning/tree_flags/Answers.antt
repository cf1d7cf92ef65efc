use Rattle.std.proofs.Common.{arith}
use Rattle.gauss_law.proofs.Spanned.{none_flagged, one_flagged}
use Rattle.gauss_law.proofs.spanning.tree_flags.Goals as goal

pub loop-e-init : goal.loop-e-init
loop-e-init c = none_flagged

pub loop-e-preserved : goal.loop-e-preserved
loop-e-preserved c = one_flagged _ _ _ _ c.from.ensures (omega arith) (c.requires _ (omega arith)) c.loop-e.invariant
