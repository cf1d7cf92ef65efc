use Rattle.std.proofs.Common.{arith}
use Rattle.entries.proofs.Counting.{moves_none, moves_next}
use Rattle.entries.proofs.count.count_moves.Goals as goal

pub loop-t-init : goal.loop-t-init
loop-t-init c = record { counted = moves_none _ _ _; few = omega arith }

pub count_both-count-requires : goal.count_both-count-requires
count_both-count-requires c = (rw c.sides_at.ensures at (c.requires.movable c.loop-t.t c.loop-t-test.true), c.requires.truncation)

pub loop-t-preserved : goal.loop-t-preserved
loop-t-preserved c = record {
  counted = moves_next _ _ _ _ _ _ _ c.loop-t.invariant.counted c.sides_at.ensures c.count_both-count.ensures.0;
  few = omega (arith, c.count_both-count.ensures.1);
}
