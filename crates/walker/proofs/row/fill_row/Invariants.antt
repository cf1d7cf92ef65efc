use Rattle.std.proofs.Common.{◌≡◌, ◌++◌, take, drop, pos}
use Rattle.cycles.specs.Cycles.{with_cycle}
use Rattle.walker.proofs.row.fill_row.Given as goal

abbrev pub invariant-loop-e : goal.invariant-loop-e
invariant-loop-e l = l.row ≡ take l.e (with_cycle l.config (pos l.times) l.cycle) ++ drop l.e l.initial.row
