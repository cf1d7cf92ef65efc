use Rattle.su2_even_sets.specs.Forest.{Mapped}
use Rattle.su2_even_sets.proofs.Forest.separate.Given as goal

abbrev pub invariant-loop-v : goal.invariant-loop-v
invariant-loop-v l = Mapped (λ v. v) l.v l.p-items
