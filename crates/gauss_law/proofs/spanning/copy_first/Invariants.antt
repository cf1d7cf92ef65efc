use Rattle.std.proofs.Common.{◌≡◌, ◌++◌, take, drop}
use Rattle.gauss_law.proofs.spanning.copy_first.Given as goal

abbrev pub invariant-loop-i : goal.invariant-loop-i
invariant-loop-i l = l.to ≡ take l.i l.from ++ drop l.i l.fn.to
