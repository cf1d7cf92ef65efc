use Rattle.std.proofs.Common.{◌≡◌, ◌++◌, take, drop}
use Rattle.cycles.specs.Cycles.{with_cycle}
use Rattle.walker.proofs.steps.add.Given as goal

abbrev pub invariant-loop-e : goal.invariant-loop-e
invariant-loop-e l = l.config ≡ take l.e (with_cycle l.initial.config l.times l.cycle) ++ drop l.e l.initial.config
