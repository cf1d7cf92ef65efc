-- How many entries the row lists have, whatever the coupling and the weights are.
use Rattle.std.specs.Prelude.{ℕ, ◌+◌, ◌*◌, ◌≤◌, true, cond, ◌≡◌, eqb, ℤ, Float, length}
use mathlib.Core.List.{List, flat_map}
use Rattle.mathematics.specs.Counting.{below, keep}
use Rattle.mathematics.specs.Calls.{Call, NoneLent, none_lent}
use Rattle.complex.specs.Complex.{Complex}
use Rattle.gauss_law.specs.Listing.{states, limit}
use Rattle.enumeration.specs.Enumeration.{basis_tests}
use Rattle.matrices.specs.declared.coupling.KSParams.{KSParams}
use Rattle.matrices.specs.Coupling.{u1_right}
use Rattle.matrices.specs.Squares.{squares}
use Rattle.plaquettes.specs.Triangle.{hits}
use Rattle.plaquettes.specs.Joined.{staying}
use Rattle.entries.specs.Rows.{csr_entries}
use Rattle.entries.specs.Count.{over_states}

-- in the row of a state the moves that stay within -L to L, and one on the diagonal unless every value is 0
unfoldable pub row_number : Complex → ℕ → List ℤ → ℕ
row_number c L s = cond (eqb (squares s) 0) 0 1 + staying c L s (length c.triangles)

-- in all rows
unfoldable pub entries_number : Complex → ℕ → ℕ
entries_number c L = over_states (row_number c L) (states c L)

-- for theorems: for each state i the states j to which the shift of triangle t takes it, and the number of such hits (i, j) of all triangles
unfoldable pub triangle_hits : Complex → ℕ → ℕ → List ℕ
triangle_hits c L t = flat_map (λ i. keep (hits c L t i) (below (length (states c L)))) (below (length (states c L)))

unfoldable pub hits_number : Complex → ℕ → ℕ
hits_number c L = length (flat_map (triangle_hits c L) (below (length c.triangles)))

-- what is known where they are counted: a row has at most 513, and build_csr tells the same number, with any coupling in its range and any
-- weights
pub record EntriesKnown (c : Complex) (L : ℕ) : Type 0 where
  pub few : entries_number c L ≤ 513 * limit
  pub every : (p : KSParams) (w : ℕ → Float) → u1_right p ≡ true → csr_entries c L p w ≡ entries_number c L

-- count_entries: their number is told, without a list.
unfoldable pub entries_call : Complex → ℕ → Call ℕ NoneLent
entries_call c L =
    record {
      tests = basis_tests c L;
      value = entries_number c L;
      before = none_lent;
      after = none_lent;
      known = EntriesKnown c L;
    }
