-- The U(1) Hamiltonian as a dense matrix: each entry is a sum of floats in a fixed order, with one rounding an operation.
use Rattle.std.specs.Prelude.{ℕ, zero, suc, ◌*◌, ◌≤◌, List, [], ◌∷◌, ◌++◌, Bool, ◌||◌, cond, eqb, ltb, ℤ, Float, get_or, length}
use Rattle.std.specs.Float.{binary64}
use Rattle.std.specs.Float.Ieee.{add}
use Rattle.mathematics.specs.Writing.{front}
use Rattle.mathematics.specs.Calls.{Call}
use Rattle.complex.specs.Complex.{Complex}
use Rattle.enumeration.specs.Enumeration.{basis_tests, short, basis_first}
use Rattle.gauss_law.specs.Listing.{states, limit}
use Rattle.matrices.specs.declared.coupling.KSParams.{KSParams}
use Rattle.matrices.specs.Coupling.{float_of, u1_right}
use Rattle.matrices.specs.Weights.{weight, weights_tests}
use Rattle.matrices.specs.Terms.{dense_plaquette_term}
use Rattle.matrices.specs.Matrix.{matrix_rows}
use Rattle.matrices.specs.Squares.{squares, energy}
use Rattle.plaquettes.specs.Joined.{joins}

-- from 0.0; on the diagonal the electric factor times the sum of squares is added
unfoldable pub u1_electric_entry : Complex → ℕ → KSParams → ℕ → ℕ → Float
u1_electric_entry c L p i j = cond (eqb i j) (add binary64 (float_of 0) (energy p.electric (squares (get_or (states c L) i [])))) (float_of 0)

-- Then each of the first n triangles, rising, adds to (i, j) and to (j, i) where it takes state i to j. It adds once, since no triangle takes
-- a state to itself, or to another and back (plaquettes/proofs/Hits: elsewhere, no-return), and off the diagonal at most one triangle adds
-- (plaquettes/proofs/Joined: one-triangle).
unfoldable pub u1_entry : Complex → ℕ → KSParams → (ℕ → Float) → ℕ → ℕ → ℕ → Float
u1_entry c L p w zero i j = u1_electric_entry c L p i j
u1_entry c L p w (suc t) i j = cond (joins c L t i j) (add binary64 (u1_entry c L p w t i j) (dense_plaquette_term p (w t))) (u1_entry c L p w t i j)

-- all entries, row by row
unfoldable pub u1_dense : Complex → ℕ → KSParams → (ℕ → Float) → List Float
u1_dense c L p w = matrix_rows (u1_entry c L p w (length c.triangles)) (length (states c L))

-- ---- the call
-- 4, 5, 7 to 10, then 12 and 14 for the weights and the coupling, and 15 for a list that has too few entries for the basis or for the matrix
abbrev pub u1_dense_tests : Complex → ℕ → KSParams → Bool → List Float → ℕ → ℕ → List (ℕ × Bool)
u1_dense_tests c L p given weights work-room result_room =
    basis_tests c L
    ++ (weights_tests (length c.triangles) (u1_right p) given weights
    ++ ((15, short c L work-room || ltb result_room (length (states c L) * length (states c L))) ∷ []))

-- build_hamiltonian: the number of states is told, and the two lists begin with the basis and with the matrix.
unfoldable pub u1_dense_call : Complex → ℕ → KSParams → Bool → List Float → List ℤ → List Float → Call ℕ (List ℤ × List Float)
u1_dense_call c L p given weights work result =
    record {
      tests = u1_dense_tests c L p given weights (length work) (length result);
      value = length (states c L);
      before = (work, result);
      after = (basis_first c L work, front (u1_dense c L p (weight given weights)) result);
      known = length (states c L) ≤ limit;
    }
