use Rattle.std.proofs.Common.{List, ℕ, Float, get_or}
use Rattle.std.specs.Int.Count.{ones}
use Rattle.matrices.specs.Matrix.{Matrix, passed}
use Rattle.matrices.specs.Squares.{energy}
use Rattle.su2_quantum.proofs.dense.add_energies.Given as goal

abbrev pub invariant-loop-i : goal.invariant-loop-i
invariant-loop-i l = (f : ℕ → ℕ → Float) (old : List Float) → Matrix f l.n old l.initial.h → Matrix (passed f (λ i. i) (λ i. energy l.factor (ones (get_or l.states i 0))) l.i) l.n old l.h
