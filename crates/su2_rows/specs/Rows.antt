-- The two-valued Hamiltonian as row lists: for each state the columns that have an entry, rising, with their values.
use Rattle.std.specs.Prelude.{ℕ, ◌+◌, ◌-◌, ◌*◌, ◌^◌, ◌≤◌, ◌<◌, List, [], ◌∷◌, ◌++◌, map, Bool, true, ◌||◌, ◌≡◌, ltb, Float, get_or, length}
use Rattle.std.specs.Int.Bits.{bit_xor}
use Rattle.std.specs.Int.Count.{ones}
use Rattle.std.specs.Float.{binary64, nan}
use Rattle.std.specs.Float.Ieee.{mul}
use Rattle.mathematics.specs.Counting.{below}
use Rattle.mathematics.specs.Writing.{front}
use Rattle.mathematics.specs.Calls.{Call}
use Rattle.complex.specs.Complex.{Complex}
use Rattle.matrices.specs.declared.coupling.KSParams.{KSParams}
use Rattle.matrices.specs.Coupling.{su2_right}
use Rattle.matrices.specs.Weights.{weight, weights_tests}
use Rattle.matrices.specs.Squares.{energy}
use Rattle.rows.specs.Row.{row_of, diagonal_first, Sorted}
use Rattle.rows.specs.RowLists.{rows_to, row_starts, row_columns, row_values, RowAppended, AllRowsFit}
use Rattle.gauss_law.specs.Listing.{limit}
use Rattle.su2_even_sets.specs.declared.Forest.{Forest}
use Rattle.su2_even_sets.specs.EvenSets.{su2_states, mask_place}
use Rattle.su2_masks.specs.Basis.{su2_tests}
use Rattle.su2_masks.specs.Flips.{triangle_mask, flips}
use Rattle.su2_masks.specs.Place.{FewLoops}
use Rattle.su2_rows.specs.Once.{ColumnsOnce}

-- the electric factor times the number of edges in state i
unfoldable pub su2_diagonal : Complex → KSParams → ℕ → Float
su2_diagonal c p i = energy p.electric (ones (get_or (su2_states c) i 0))

-- row i: the diagonal where it is kept, and for each triangle, in the column of the state to which it flips i, the magnetic factor × weight
unfoldable pub su2_row : Complex → KSParams → (ℕ → Float) → ℕ → List (ℕ × Float)
su2_row c p w i =
    row_of (su2_diagonal c p i) (λ t j. flips c t i j) (λ t. mul binary64 p.magnetic (w t)) (length c.triangles) (length (su2_states c)) i

-- the number of entries of all rows
unfoldable pub su2_entries : Complex → KSParams → (ℕ → Float) → ℕ
su2_entries c p w = length (rows_to (su2_row c p w) (length (su2_states c)))

-- 4 and 7 to 10 as for the basis, then 12 and 14 for the weights and the coupling, and 15 where the list of states, that of starts, that of
-- columns or that of values is too short
abbrev pub su2_rows_tests : Complex → KSParams → Bool → List Float → ℕ → ℕ → ℕ → ℕ → List (ℕ × Bool)
su2_rows_tests c p given weights work-room starts_room columns_room values_room =
    su2_tests c
    ++ (weights_tests (length c.triangles) (su2_right p) given weights
    ++ ((15, ((ltb work-room (length (su2_states c)) || ltb starts_room (length (su2_states c) + 1)) || ltb columns_room (su2_entries c p (weight given weights))) || ltb values_room (su2_entries c p (weight given weights))) ∷ []))

-- what is known of the rows where they are listed: there are not more than the limit, none holds a column twice, and each has an entry for each
-- triangle and one on the diagonal, all but the first, which has none there
pub record RowsKnown (c : Complex) (p : KSParams) (w : ℕ → Float) : Type 0 where
  pub few : length (su2_states c) ≤ limit
  pub once : ColumnsOnce c
  pub count : su2_entries c p w ≡ (length c.triangles + 1) * length (su2_states c) - 1

-- build_csr_su2: the number of entries is told, and the four lists begin with the masks, ascending, and with the starts, the columns and the
-- values of all rows.
unfoldable pub su2_rows_call : Complex → KSParams → Bool → List Float → List ℕ → List ℕ → List ℕ → List Float → Call ℕ (List ℕ × List ℕ × List ℕ × List Float)
su2_rows_call c p given weights work starts columns values =
    record {
      tests = su2_rows_tests c p given weights (length work) (length starts) (length columns) (length values);
      value = su2_entries c p (weight given weights);
      before = (work, starts, columns, values);
      after = (
        front (su2_states c) work,
        front (row_starts (su2_row c p (weight given weights)) (length (su2_states c))) starts,
        front (row_columns (su2_row c p (weight given weights)) (length (su2_states c))) columns,
        front (row_values (su2_row c p (weight given weights)) (length (su2_states c))) values,
      );
      known = RowsKnown c p (weight given weights);
    }

-- ---- as the code keeps it
-- entries with their columns flipped by the same bits
abbrev pub flipped_entries : ℕ → List (ℕ × Float) → List (ℕ × Float)
flipped_entries by entries = map (λ e. (bit_xor e.0 by, e.1)) entries

-- the entries of the triangles in row i, by the tables of n triangles: the flip and the term of each
abbrev pub flip_entries : List ℕ → List Float → ℕ → ℕ → List (ℕ × Float)
flip_entries places terms n i = map (λ t. (bit_xor i (get_or places t 0), get_or terms t nan)) (below n)

-- the entries of row i before they are sorted, by the list of states and the tables of n triangles: the diagonal where it is kept, then those of
-- the triangles
unfoldable pub table_entries : Float → List ℕ → List ℕ → List Float → ℕ → ℕ → List (ℕ × Float)
table_entries electric states places terms n i = diagonal_first i (energy electric (ones (get_or states i 0))) (flip_entries places terms n i)

-- of each of the first n triangles the place of its edges, and its magnetic factor × weight
pub record Tables (c : Complex) (p : KSParams) (w : ℕ → Float) (n : ℕ) (places : List ℕ) (terms : List Float) : Type 0 where
  pub places_are : (t : ℕ) → t < n → get_or places t 0 ≡ mask_place c (triangle_mask c t)
  pub terms_are : (t : ℕ) → t < n → get_or terms t nan ≡ mul binary64 p.magnetic (w t)

-- some entries are written as row i, sorted
pub record RowAdded (entries : List (ℕ × Float)) (i at : ℕ) (starts columns : List ℕ) (values : List Float) (r : ℕ) (starts' columns' : List ℕ) (values' : List Float) : Type 0 where
  pub row : List (ℕ × Float)
  pub is : Sorted entries row
  pub appended : RowAppended row i at starts columns values r starts' columns' values'

-- n states with tables of t triangles, and room for all rows and their starts. No column is found twice in a row.
pub record RowsFit (n : ℕ) (electric : Float) (states places : List ℕ) (terms : List Float) (t starts_room columns_room values_room : ℕ) : Type 0 where
  pub few : n ≤ 2 ^ 20
  pub few_triangles : t ≤ 256
  pub states_long : n ≤ length states
  pub starts_fit : n < starts_room
  pub fit : AllRowsFit (table_entries electric states places terms t) n columns_room values_room

-- the loops of an accepted complex that has n states, a coupling in its range, and room for all rows and their starts
pub record RowsOf (c : Complex) (f : Forest) (p : KSParams) (n starts_room columns_room values_room : ℕ) : Type 0 where
  pub loops : FewLoops c f
  pub states : n ≡ length (su2_states c)
  pub right : su2_right p ≡ true
  pub starts_fit : n < starts_room
  pub columns_fit : (length c.triangles + 1) * n - 1 ≤ columns_room
  pub values_fit : (length c.triangles + 1) * n - 1 ≤ values_room
