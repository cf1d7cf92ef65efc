use Rattle.std.proofs.Common.{ℕ, List}
use lib.Ieee.{Float}
use Rattle.matrices.specs.Matrix.{Matrix, passed}
use Rattle.plaquettes.specs.Rows.{electric_term}
use Rattle.hamiltonian.proofs.dense.add_electric.Given as goal

abbrev pub invariant-loop-i : goal.invariant-loop-i
invariant-loop-i l = (f : ℕ → ℕ → Float) (old : List Float) → Matrix f l.n old l.fn.h → Matrix (passed f (λ i. i) (electric_term l.factor l.m l.list) l.i) l.n old l.h
