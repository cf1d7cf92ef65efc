-- All rows of the Hamiltonian, as the tables of the triangles make them.
use Prim.Native.Nat.{ℕ, ◌+◌, ◌-◌, ◌*◌, ◌^◌, ◌≤◌, ◌<◌}
use mathlib.Core.List.{List, ◌++◌}
use mathlib.Core.Bool.{true}
use mathlib.Core.Path.{◌≡◌, sym, ap, ◌∙◌}
use native.Mathlib.Nat.{mul-le-mul, mul-pos}
use native.Mathlib.Omega.{arith}
use lib.Ieee.{Float}
use lib.ListN.{get_or, length, length-append, get_or-append}
use lib.Pow.{pow_mono, pow_pos}
use Rattle.complex.specs.declared.SimplicialComplex.{SimplicialComplex}
use Rattle.complex.specs.Complex.{Complex, complex_of}
use Rattle.triangles.proofs.SidesFound.{triangles_long}
use Rattle.matrices.specs.Coupling.{su2_right}
use Rattle.matrices.specs.declared.coupling.KSParams.{KSParams}
use Rattle.rows.specs.RowLists.{rows_to, RowsWritten, SortedRows, SortedWritten}
use Rattle.rows.proofs.SortedRows.{rows_lengths}
use Rattle.su2_even_sets.specs.declared.Forest.{Forest}
use Rattle.su2_even_sets.specs.EvenSets.{su2_states}
use Rattle.su2_masks.specs.Place.{FewLoops}
use Rattle.su2_masks.proofs.Placing.{states_number}
use Rattle.su2_rows.specs.Rows.{su2_row, su2_entries, table_entries, Tables, RowsFit, RowsOf}
use Rattle.su2_rows.proofs.RowLengths.{entries_number}
use Rattle.su2_rows.proofs.TableRows.{table_differ, table_sorted}

-- ---- what is judged
-- few states, and one at least
pub states_few : {c : Complex} {f : Forest} → FewLoops c f → (0 < length (su2_states c)) × (length (su2_states c) ≤ 2 ^ 20)
states_few {c} {f} l = rw (states_number c f l.of) (pow_pos f.count, pow_mono l.few)

-- few triangles and states have few entries, and there is one at least or none is left out
pub entries_few : (t n : ℕ) → t ≤ 256 → 0 < n → n ≤ 2 ^ 20 → ((t + 1) * n ≤ 257 * 2 ^ 20) × (1 ≤ (t + 1) * n)
entries_few t n few some most =
    let more : t + 1 ≤ 257 = omega arith in
    let one_more : 0 < t + 1 = omega arith in
    (mul-le-mul more most, mul-pos one_more some)

-- the number of entries, as the code makes it of the number of states
pub entries_made : (r : SimplicialComplex) {f : Forest} → FewLoops (complex_of r) f → (p : KSParams) → su2_right p ≡ true → (w : ℕ → Float) (n k : ℕ) → n ≡ length (su2_states (complex_of r)) → k ≡ (r.n_triangles + 1) * n - 1
    → k ≡ su2_entries (complex_of r) p w
entries_made r l p right w n k number is = sym (entries_number (complex_of r) l.of.accepted p right w ∙ rw (triangles_long r, ← number) (sym is))

-- ---- the rows of the tables
module _ (c : Complex) (f : Forest) (p : KSParams) (n starts_room columns_room values_room : ℕ) (m : RowsOf c f p n starts_room columns_room values_room) where
  module _ (w : ℕ → Float) (places : List ℕ) (terms : List Float) (tables : Tables c p w (length c.triangles) places terms) (states rest : List ℕ) (begins : states ≡ su2_states c ++ rest) where
    abbrev entries : ℕ → List (ℕ × Float)
    entries = table_entries p.electric states places terms (length c.triangles)

    -- a state of the list
    module _ (i : ℕ) (h : i < n) where
      inside : i < length (su2_states c)
      inside = rw (← m.states) h

      state : get_or states i 0 ≡ get_or (su2_states c) i 0
      state = rw begins (get_or-append (su2_states c) rest 0 i inside)

    sorted : SortedRows entries (su2_row c p w) n
    sorted i h = table_sorted c m.loops.of.accepted p w places terms tables states i (inside i h) (state i h)

    number : length (rows_to entries n) ≡ su2_entries c p w
    unfolding su2_entries
    number = sym (rows_lengths entries (su2_row c p w) n sorted) ∙ rw m.states

    number_is : length (rows_to entries n) ≡ (length c.triangles + 1) * n - 1
    number_is = number ∙ rw m.states (entries_number c m.loops.of.accepted p m.right w)

    pub rows_fit : RowsFit n p.electric states places terms (length c.triangles) starts_room columns_room values_room
    rows_fit =
        let few = m.loops.of.accepted.few_triangles in
        let states_fit = states_few m.loops in
        let most = (entries_few (length c.triangles) n few (rw m.states states_fit.0) (rw m.states states_fit.1)).0 in
        record {
          few = rw m.states states_fit.1;
          few_triangles = few;
          states_long = omega (arith, m.states, ap length begins, length-append (su2_states c) rest);
          starts_fit = m.starts_fit;
          fit =
              record {
                differ = λ i h. table_differ c m.loops.of.accepted p w places terms tables states i (inside i h) (state i h);
                columns_fit = rw number_is m.columns_fit;
                values_fit = rw number_is m.values_fit;
                small = rw number_is (omega (arith, most));
              };
        }

    pub rows_written : (starts columns : List ℕ) (values : List Float) (starts' columns' : List ℕ) (values' : List Float)
        → SortedWritten entries n (length (rows_to entries n)) starts columns values starts' columns' values' → RowsWritten (su2_row c p w) n (su2_entries c p w) starts columns values starts' columns' values'
    rows_written starts columns values starts' columns' values' written = rw number at (written (su2_row c p w) sorted)
