use Rattle.std.proofs.Common.{◌≡◌, neg_ℤ, length, pos}
use Rattle.cycles.specs.Cycles.{row}
use Rattle.walker.specs.Walker.{sum_of_cycles}
use Rattle.walker.proofs.Stepping.{Turned}
use Rattle.walker.proofs.steps.begin.Given as goal

abbrev pub invariant-loop-j : goal.invariant-loop-j
invariant-loop-j l = record {
  turned : Turned (length l.initial.config) l.j l.config;
  summed : l.config ≡ sum_of_cycles (row (length l.initial.config) l.cycles) (λ i. neg_ℤ (pos l.lambda)) l.initial.config l.j;
}
