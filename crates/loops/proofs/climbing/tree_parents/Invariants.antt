use Rattle.loops.specs.Climbing.{Noted}
use Rattle.loops.proofs.climbing.tree_parents.Given as goal

abbrev pub invariant-loop-i : goal.invariant-loop-i
invariant-loop-i l = Noted l.fn.tree l.i l.place l.led
