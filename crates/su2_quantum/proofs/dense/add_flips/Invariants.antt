use Rattle.std.proofs.Common.{List, ℕ, Float}
use Rattle.std.specs.Int.Bits.{bit_xor}
use Rattle.matrices.specs.Matrix.{Matrix, passed}
use Rattle.su2_quantum.proofs.dense.add_flips.Given as goal

abbrev pub invariant-loop-i : goal.invariant-loop-i
invariant-loop-i l = (f : ℕ → ℕ → Float) (old : List Float) → Matrix f l.n old l.initial.h → Matrix (passed f (λ i. bit_xor i l.k) (λ i. l.x) l.i) l.n old l.h
