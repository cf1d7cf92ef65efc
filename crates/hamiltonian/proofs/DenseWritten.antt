-- The matrix that is written: zeros, then the electric term, then the triangles one after the other.
use Prim.Native.Nat.{ℕ, ◌*◌, ◌<◌, ◌≤◌}
use mathlib.Core.List.{List}
use mathlib.Core.Path.{◌≡◌, ap, ◌∙◌}
use lib.IntN.{ℤ}
use lib.Ieee.{Float}
use lib.ListN.{length}
use Rattle.mathematics.specs.Writing.{front}
use Rattle.complex.specs.Complex.{Complex}
use Rattle.matrices.specs.declared.coupling.KSParams.{KSParams}
use Rattle.plaquettes.specs.declared.target.Sizes.{Sizes}
use Rattle.matrices.specs.Coupling.{float_of}
use Rattle.matrices.specs.Matrix.{matrix_rows, Matrix, passed}
use Rattle.hamiltonian.specs.Dense.{u1_electric_entry, u1_entry, u1_dense}
use Rattle.plaquettes.specs.Rows.{electric_term}
use Rattle.plaquettes.specs.Targets.{BasisList}
use Rattle.matrices.proofs.Matrices.{matrix_same, matrix_is, passed_all}
use Rattle.plaquettes.proofs.Targets.{row_is}

module _ (c : Complex) (list : List ℤ) (s : Sizes) (free : List ℕ) (basis : BasisList c list s free) where
  module _ (p : KSParams) (w : ℕ → Float) where
    -- the electric term, as it is added to zeros
    electric_added : (i j : ℕ) → i < s.states → passed (λ i j. float_of 0) (λ i. i) (electric_term p.electric s.edges list) s.states i j ≡ u1_entry c s.lambda p w 0 i j
    unfolding u1_entry u1_electric_entry electric_term
    electric_added i j h = passed_all (λ i j. float_of 0) (λ i. i) (electric_term p.electric s.edges list) s.states i j h ∙ rw (row_is c list s free basis i h)

    pub electric_written : (old new : List Float) → Matrix (passed (λ i j. float_of 0) (λ i. i) (electric_term p.electric s.edges list) s.states) s.states old new
        → Matrix (u1_entry c s.lambda p w 0) s.states old new
    electric_written old new = matrix_same _ (u1_entry c s.lambda p w 0) s.states old new (λ i j h k. electric_added i j h)

    pub dense_written : (old new : List Float) → s.states * s.states ≤ length old → Matrix (u1_entry c s.lambda p w (length c.triangles)) s.states old new
        → new ≡ front (u1_dense c s.lambda p w) old
    unfolding u1_dense
    dense_written old new room m =
        matrix_is (u1_entry c s.lambda p w (length c.triangles)) s.states old new m room
        ∙ ap (λ (n : ℕ). front (matrix_rows (u1_entry c s.lambda p w (length c.triangles)) n) old) basis.count
