use Rattle.std.proofs.Common.{◌≡◌}
use Rattle.lanczos.specs.Walk.{run_added}
use Rattle.lanczos.proofs.walk.add_run.Given as goal

abbrev pub invariant-loop-k : goal.invariant-loop-k
invariant-loop-k l = l.res ≡ run_added l.x l.vector l.i l.j l.k l.fn.res
