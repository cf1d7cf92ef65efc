use Rattle.std.proofs.Common.{take}
use Rattle.complex.specs.Complex.{simplices}
use Rattle.law_check.specs.Law.{Summed}
use Rattle.law_check.proofs.Summed.{Small}
use Rattle.law_check.proofs.gauss_sums.Given as goal

abbrev pub invariant-loop-e : goal.invariant-loop-e
invariant-loop-e l = record { summed : Summed (simplices 2 l.c.edges l.e) (take l.e l.configuration) l.sums; small : Small l.e l.sums }
