-- The entries of the matrix, as the code adds to them.
use Prim.Native.Nat.{ℕ, ◌+◌, ◌*◌, ◌^◌, ◌<◌, ◌≤◌}
use mathlib.Core.List.{List, ◌++◌}
use mathlib.Core.Bool.{Bool, cond}
use mathlib.Core.Path.{◌≡◌, sym, ap, ◌∙◌}
use native.Mathlib.Numerals.{add-one}
use lib.Bits.{bit_xor}
use lib.Count.{ones}
use lib.Dec.{eqb}
use lib.Ieee.{Float, binary64, add, mul}
use lib.Pow.{pow_mono}
use lib.ListN.{get_or, length, get_or-append}
use Rattle.mathematics.specs.Writing.{front}
use Rattle.complex.specs.Complex.{Complex}
use Rattle.complex.specs.Judge.{Accepted}
use Rattle.matrices.specs.declared.coupling.KSParams.{KSParams}
use Rattle.matrices.specs.Coupling.{float_of}
use Rattle.matrices.specs.Matrix.{matrix_rows, Matrix, passed}
use Rattle.matrices.proofs.Matrices.{matrix_is, matrix_same, passed_all}
use Rattle.su2_even_sets.specs.declared.Forest.{Forest}
use Rattle.su2_even_sets.specs.EvenSets.{su2_states, mask_place}
use Rattle.su2_quantum.specs.Dense.{su2_electric_entry, su2_entry, su2_dense, MatrixOf}
use Rattle.su2_masks.specs.Flips.{triangle_mask}
use Rattle.su2_masks.proofs.Placing.{states_number}
use Rattle.su2_masks.proofs.Flips.{flip_within, flips_told}

-- ---- a matrix with a row for each state
module _ (c : Complex) (f : Forest) (n room : ℕ) (m : MatrixOf c f n room) where
  pub rows_number : n ≡ length (su2_states c)
  rows_number = m.states ∙ sym (states_number c f m.loops)

  pub rows_few : n ≤ 2 ^ 20
  rows_few = rw m.states (pow_mono m.few)

  pub flips_within : (t : ℕ) → t < length c.triangles → (i : ℕ) → i < n → bit_xor i (mask_place c (triangle_mask c t)) < n
  flips_within t number i h = rw rows_number (flip_within c m.loops.accepted t number i (rw (← rows_number) h))

module _ (c : Complex) (accepted : Accepted c) where
  module _ (p : KSParams) (n : ℕ) (number : n ≡ length (su2_states c)) (old new : List Float) where
    -- the diagonal is added to zeros
    pub electric_matrix : (states rest : List ℕ) → states ≡ su2_states c ++ rest
        → Matrix (passed (λ i j. float_of 0) (λ i. i) (λ i. mul binary64 p.electric (float_of (ones (get_or states i 0)))) n) n old new → Matrix (su2_electric_entry c p) n old new
    unfolding su2_electric_entry
    electric_matrix states rest begins =
        matrix_same _ (su2_electric_entry c p) n old new
        (λ i j h k. passed_all _ _ _ n i j h
        ∙ ap (λ (x : ℕ). cond (eqb i j) (add binary64 (float_of 0) (mul binary64 p.electric (float_of (ones x)))) (float_of 0)) (rw begins (get_or-append (su2_states c) rest 0 i (rw (← number) h))))

    -- one triangle more
    pub triangle_matrix : (w : ℕ → Float) (t : ℕ) → t < length c.triangles
        → Matrix (passed (su2_entry c p w t) (λ i. bit_xor i (mask_place c (triangle_mask c t))) (λ i. mul binary64 p.magnetic (w t)) n) n old new → Matrix (su2_entry c p w (t + 1)) n old new
    unfolding su2_entry
    triangle_matrix w t triangle =
        matrix_same _ (su2_entry c p w (t + 1)) n old new
        (λ i j h k. passed_all _ _ _ n i j h
        ∙ ap (λ (b : Bool). cond b (add binary64 (su2_entry c p w t i j) (mul binary64 p.magnetic (w t))) (su2_entry c p w t i j)) (sym (flips_told c accepted t triangle i (rw (← number) h) j))
        ∙ ap (λ (m : ℕ). su2_entry c p w m i j) (sym (add-one t)))

    -- all entries
    pub matrix_written : (w : ℕ → Float) → Matrix (su2_entry c p w (length c.triangles)) n old new → n * n ≤ length old → new ≡ front (su2_dense c p w) old
    unfolding su2_dense
    matrix_written w m room = matrix_is _ n old new m room ∙ ap (λ (k : ℕ). front (matrix_rows (su2_entry c p w (length c.triangles)) k) old) number
