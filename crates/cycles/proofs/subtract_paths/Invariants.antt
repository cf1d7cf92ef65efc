use Rattle.std.proofs.Common.{◌≡◌, ◌++◌, take, drop, negsuc}
use Rattle.cycles.specs.Cycles.{with_cycle}
use Rattle.cycles.proofs.subtract_paths.Given as goal

abbrev pub invariant-loop-e : goal.invariant-loop-e
invariant-loop-e l = l.row ≡ take l.e (with_cycle l.first (negsuc 0) l.second) ++ drop l.e l.initial.row
