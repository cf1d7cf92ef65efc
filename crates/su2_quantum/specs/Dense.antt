-- The two-valued Hamiltonian as a dense matrix: each entry is a sum of floats in a fixed order, with one rounding an operation.
use Rattle.std.specs.Prelude.{ℕ, zero, suc, ◌*◌, ◌^◌, ◌≤◌, List, [], ◌∷◌, ◌++◌, Bool, ◌||◌, cond, ◌≡◌, eqb, ltb, Float, get_or, length}
use Rattle.std.specs.Int.Count.{ones}
use Rattle.std.specs.Float.{binary64}
use Rattle.std.specs.Float.Ieee.{add, mul}
use Rattle.mathematics.specs.Writing.{front}
use Rattle.mathematics.specs.Calls.{Call}
use Rattle.complex.specs.Complex.{Complex}
use Rattle.matrices.specs.declared.coupling.KSParams.{KSParams}
use Rattle.matrices.specs.Coupling.{float_of, su2_right}
use Rattle.matrices.specs.Weights.{weight, weights_tests}
use Rattle.matrices.specs.Matrix.{matrix_rows}
use Rattle.su2_even_sets.specs.declared.Forest.{Forest}
use Rattle.su2_even_sets.specs.EvenSets.{su2_states}
use Rattle.su2_masks.specs.Basis.{su2_tests}
use Rattle.su2_masks.specs.Flips.{flips}
use Rattle.su2_masks.specs.Place.{LoopsOf}
use Rattle.gauss_law.specs.Listing.{limit}
use Rattle.matrices.specs.Squares.{energy}

-- from 0.0; on the diagonal the electric factor times the number of edges in the state is added
unfoldable pub su2_electric_entry : Complex → KSParams → ℕ → ℕ → Float
su2_electric_entry c p i j = cond (eqb i j) (add binary64 (float_of 0) (energy p.electric (ones (get_or (su2_states c) i 0)))) (float_of 0)

-- then each of the first n triangles, rising, adds its magnetic factor × weight to (i, j) where it flips i to j
unfoldable pub su2_entry : Complex → KSParams → (ℕ → Float) → ℕ → ℕ → ℕ → Float
su2_entry c p w zero i j = su2_electric_entry c p i j
su2_entry c p w (suc t) i j = cond (flips c t i j) (add binary64 (su2_entry c p w t i j) (mul binary64 p.magnetic (w t))) (su2_entry c p w t i j)

-- all entries, row by row
unfoldable pub su2_dense : Complex → KSParams → (ℕ → Float) → List Float
su2_dense c p w = matrix_rows (su2_entry c p w (length c.triangles)) (length (su2_states c))

-- 4 and 7 to 10 as for the basis, then 12 and 14 for the weights and the coupling, and 15 where the list of states or that of entries is too short
abbrev pub su2_dense_tests : Complex → KSParams → Bool → List Float → ℕ → ℕ → List (ℕ × Bool)
su2_dense_tests c p given weights work-room result_room =
    su2_tests c
    ++ (weights_tests (length c.triangles) (su2_right p) given weights
    ++ ((15, ltb work-room (length (su2_states c)) || ltb result_room (length (su2_states c) * length (su2_states c))) ∷ []))

-- build_su2_hamiltonian: the number of states is told, and the two lists begin with the masks, ascending, and with the matrix.
unfoldable pub su2_dense_call : Complex → KSParams → Bool → List Float → List ℕ → List Float → Call ℕ (List ℕ × List Float)
su2_dense_call c p given weights work result =
    record {
      tests = su2_dense_tests c p given weights (length work) (length result);
      value = length (su2_states c);
      before = (work, result);
      after = (front (su2_states c) work, front (su2_dense c p (weight given weights)) result);
      known = length (su2_states c) ≤ limit;
    }

-- ---- as the code keeps it
-- the loops of an accepted complex that has n states, and room for a matrix of them
pub record MatrixOf (c : Complex) (f : Forest) (n room : ℕ) : Type 0 where
  pub loops : LoopsOf c f
  pub few : f.count ≤ 20
  pub states : n ≡ 2 ^ f.count
  pub long : n * n ≤ room
