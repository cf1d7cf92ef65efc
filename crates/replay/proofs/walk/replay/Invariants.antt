-- The cases so far are counted, and what is left of the list gets shorter.
use Rattle.std.proofs.Common.{length, ◌-◌}
use Rattle.replay.proofs.Walking.{Walked}
use Rattle.replay.proofs.walk.replay.Given as goal

abbrev pub invariant-loop-differ : goal.invariant-loop-differ
invariant-loop-differ l = Walked l.list l.at l.cases l.differ

abbrev pub decreases-loop-differ : goal.decreases-loop-differ
decreases-loop-differ l = length l.list - l.at
