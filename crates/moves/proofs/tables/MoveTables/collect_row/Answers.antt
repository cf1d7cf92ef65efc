use Rattle.std.proofs.Common.{length}
use Rattle.moves.specs.Numbers.{number_in}
use Rattle.moves.specs.Moves.{Pointers}
use Rattle.moves.specs.Views.{moves_of}
use Rattle.moves.proofs.Collecting.{pointers_same, pointed_pointers, gathered_first, gathered_none, gathered_some}
use Rattle.moves.proofs.tables.MoveTables.collect_row.Goals as goal
use Rattle.moves.proofs.tables.MoveTables.collect_row.Goals.{in-Some, in_default}

pub loop-k-init : goal.loop-k-init
loop-k-init c = gathered_first _ _ _ _ _ _ _ _ _ c.is_kept-kept.ensures c.push_entry-m.ensures

pub target-requires : goal.target-requires
target-requires c =
    let a = c.args in
    let pointers : Pointers (length a.words.now) c.loop-k.pointers =
    pointers_same c.loop-k.invariant.moved (pointed_pointers (moves_of a.self.now) a.self.now.lambda (number_in a.words.now) (length a.words.now) a.row.state.now a.row.number a.pointers.now c.loop-k.k c.requires.2) in
    (c.loop-k-test.true, c.requires.1, c.requires.5, pointers.below c.loop-k.k)

pub loop-k-preserved : goal.loop-k-preserved
loop-k-preserved c =
    elim c.match-target.branch [
      | in-Some w ↦ rw (w.pointers-is, w.row_columns-is, w.row_values-is, w.m-is) (rw w.min.ensures (gathered_some _ _ _ _ _ _ _ _ _ c.loop-k.invariant _ c.target.ensures.is _ w.in-Some.is _ _ w.push_entry-m-in-Some.ensures))
      | in_default w ↦ rw (w.pointers-is, w.row_columns-is, w.row_values-is, w.m-is) (gathered_none _ _ _ _ _ _ _ _ _ c.loop-k.invariant _ c.target.ensures.is w.in_default.is)
    ]
