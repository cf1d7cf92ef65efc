-- The U(1) Hamiltonian as row lists.
use Rattle.std.specs.Prelude.{ℕ, ◌+◌, ◌≤◌, List, [], ◌∷◌, ◌++◌, Bool, ◌||◌, ltb, ℤ, Float, length}
use Rattle.mathematics.specs.Writing.{front}
use Rattle.mathematics.specs.Calls.{Call}
use Rattle.complex.specs.Complex.{Complex}
use Rattle.enumeration.specs.Enumeration.{basis_tests, short, basis_first}
use Rattle.gauss_law.specs.Listing.{states, limit}
use Rattle.matrices.specs.declared.coupling.KSParams.{KSParams}
use Rattle.matrices.specs.Coupling.{u1_right}
use Rattle.matrices.specs.Weights.{weight, weights_tests}
use Rattle.rows.specs.RowLists.{row_starts, row_columns, row_values}
use Rattle.entries.specs.Once.{ColumnsOnce}
use Rattle.entries.specs.Rows.{csr_row, csr_entries}

-- 4, 5, 7 to 10, then 12 and 14 for the weights and the coupling, and 15 for a list that is too short: for the basis, for a start of each row
-- and the end of the last, for the columns or for the values
abbrev pub csr_tests : Complex → ℕ → KSParams → Bool → List Float → ℕ → ℕ → ℕ → ℕ → List (ℕ × Bool)
csr_tests c L p given weights work-room starts_room columns_room values_room =
    basis_tests c L
    ++ (weights_tests (length c.triangles) (u1_right p) given weights
    ++ ((
      15,
      short c L work-room || (ltb starts_room (length (states c L) + 1)
          || (ltb columns_room (csr_entries c L p (weight given weights)) || ltb values_room (csr_entries c L p (weight given weights)))),
    ) ∷ []))

-- what is known of the rows where they are written: there are not more than the limit, and none holds a column twice
pub record RowsKnown (c : Complex) (L : ℕ) : Type 0 where
  pub few : length (states c L) ≤ limit
  pub once : ColumnsOnce c L

-- build_csr: the number of entries is told, and the four lists begin with the basis, the starts of the rows, the columns and the values.
unfoldable pub csr_call : Complex → ℕ → KSParams → Bool → List Float → List ℤ → List ℕ → List ℕ → List Float → Call ℕ (List ℤ × List ℕ × List ℕ × List Float)
csr_call c L p given weights work starts columns values =
    record {
      tests = csr_tests c L p given weights (length work) (length starts) (length columns) (length values);
      value = csr_entries c L p (weight given weights);
      before = (work, starts, columns, values);
      after = (
        basis_first c L work,
        front (row_starts (csr_row c L p (weight given weights)) (length (states c L))) starts,
        front (row_columns (csr_row c L p (weight given weights)) (length (states c L))) columns,
        front (row_values (csr_row c L p (weight given weights)) (length (states c L))) values,
      );
      known = RowsKnown c L;
    }
