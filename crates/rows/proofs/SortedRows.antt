-- Rows that are sorted and written one after the other.
use Prim.Native.Nat.{ℕ, zero, suc, ◌+◌, ◌≤◌, ◌<◌}
use mathlib.Core.List.{List, flat_map}
use mathlib.Core.Bool.{Bool, true, false, cond, not, ◌&&◌, ◌||◌}
use mathlib.Core.Path.{◌≡◌, refl, ap₂}
use native.Mathlib.Omega.{arith}
use borrow.Author.Tests.{ltb-false}
use lib.Dec.{eqb, ltb}
use lib.Ieee.{Float}
use lib.ListN.{length, length-append}
use Rattle.mathematics.specs.Counting.{below}
use Rattle.mathematics.specs.Refusals.{first}
use Rattle.mathematics.specs.Writing.{front}
use Rattle.mathematics.proofs.Tests.{or_fell}
use Rattle.mathematics.proofs.Flat.{flat_map_last}
use Rattle.matrices.specs.Weights.{weights_tests}
use Rattle.rows.specs.Row.{Sorted}
use Rattle.rows.specs.RowLists.{rows_to, row_starts, row_columns, row_values, EntryPushed, RowAppended, RowsWritten, RowFits, AllRowsFit, SortedRows, SortedWritten}
use Rattle.rows.proofs.RowsWritten.{rows_length_next, rows_rise, row_written}
use Rattle.rows.proofs.Sorting.{sorted_same}

pub pushed_few : {old new : List (ℕ × Float)} {n r : ℕ} {e : ℕ × Float} {taken : Bool} → EntryPushed old n e taken r new → r ≤ n + 1
pushed_few {old} {new} {n} {r} {e} {taken} pushed = go taken pushed.count
  where
    go : (b : Bool) → r ≡ n + cond b 1 0 → r ≤ n + 1
    go true is = omega arith
    go false is = omega arith

-- ---- one row after the other
-- sorting keeps the lengths
pub rows_lengths : (entries row : ℕ → List (ℕ × Float)) (n : ℕ) → SortedRows entries row n → length (rows_to row n) ≡ length (rows_to entries n)
unfolding rows_to below flat_map
rows_lengths entries row zero sorted = refl
rows_lengths entries row (suc n) sorted =
    rw (flat_map_last row (below n) n, flat_map_last entries (below n) n, length-append (flat_map row (below n)) (row n), length-append (flat_map entries (below n)) (entries n))
    (ap₂ (λ a b. a + b) (rows_lengths entries row n (λ i h. sorted i (omega arith))) (sorted n (omega arith)).same.count)

module _ {entries : ℕ → List (ℕ × Float)} {n columns_room values_room : ℕ} (fit : AllRowsFit entries n columns_room values_room) (i at : ℕ) (inside : i < n) (begins : at ≡ length (rows_to entries i)) where
  -- there is room for row i
  pub fits_at : RowFits (entries i) at columns_room values_room
  fits_at =
      let ends : at + length (entries i) ≤ length (rows_to entries n) = omega (arith, begins, rows_length_next entries i, rows_rise entries (i + 1) n (omega arith)) in
      record {
        columns_fit = omega (arith, ends, fit.columns_fit);
        values_fit = omega (arith, ends, fit.values_fit);
        small = omega (arith, ends, fit.small);
      }

  -- and it is written, sorted
  module _ (line : List (ℕ × Float)) (is : Sorted (entries i) line) (starts columns : List ℕ) (values : List Float) (r : ℕ) (starts' columns' : List ℕ) (values' : List Float) (appended : RowAppended line i at starts columns values r starts' columns' values') where
    pub added_next : r ≡ length (rows_to entries (i + 1))
    added_next = omega (arith, begins, appended.next, is.same.count, rows_length_next entries i)

    pub added_written : (old_starts old_columns : List ℕ) (old_values : List Float) → n < length old_starts → length old_columns ≡ columns_room → length old_values ≡ values_room
        → SortedWritten entries i at old_starts old_columns old_values starts columns values → SortedWritten entries (i + 1) r old_starts old_columns old_values starts' columns' values'
    added_written old_starts old_columns old_values starts_long columns_long values_long so_far row sorted =
        let line_is : line ≡ row i = sorted_same is (sorted i (omega arith)) in
        let rise = rows_rise entries (i + 1) n (omega arith) in
        let same = rows_lengths entries row (i + 1) sorted in
        row_written row old_starts old_columns old_values starts columns values starts' columns' values' i at r (omega arith) (omega (arith, same, rise, fit.columns_fit)) (omega (arith, same, rise, fit.values_fit))
        (so_far row (λ k h. sorted k (omega arith))) (rw line_is at appended)

-- ---- what is judged
-- lists that are not too short for n states and m entries
pub long_enough : (n m a b d e : ℕ) → (((ltb a n || ltb b (n + 1)) || ltb d m) || ltb e m) ≡ false → (n ≤ a) × (n < b) × (m ≤ d) × (m ≤ e)
long_enough n m a b d e h =
    let outer = or_fell ((ltb a n || ltb b (n + 1)) || ltb d m) (ltb e m) h in
    let middle = or_fell (ltb a n || ltb b (n + 1)) (ltb d m) outer.0 in
    let inner = or_fell (ltb a n) (ltb b (n + 1)) middle.0 in
    (ltb-false a n inner.0, omega (arith, ltb-false b (n + 1) inner.1), ltb-false d m middle.1, ltb-false e m outer.1)

-- a coupling that passes is right
pub coupling_fits : (n : ℕ) (right given : Bool) (weights : List Float) → first (weights_tests n right given weights) ≡ 0 → right ≡ true
unfolding weights_tests first
coupling_fits n true given weights h = refl
coupling_fits n false given weights h = go (given && not (eqb (length weights) n)) h
  where
    go : (b : Bool) → ◌≡◌ {A = ℕ} (cond b 12 14) 0 → false ≡ true
    go true k = absurd (omega (arith, k))
    go false k = absurd (omega (arith, k))

-- ---- what is told at the end
-- four lists at once: one that is known, and rows that are written
pub lists_are : {A : Type 0} {row : ℕ → List (ℕ × Float)} {n m at : ℕ} {work states : List A} {starts columns : List ℕ} {values : List Float} {starts' columns' : List ℕ} {values' : List Float} → work ≡ states → n ≡ m → RowsWritten row n at starts columns values starts' columns' values'
    → ◌≡◌ {A = List A × List ℕ × List ℕ × List Float} (work, starts', columns', values') (states, front (row_starts row m) starts, front (row_columns row m) columns, front (row_values row m) values)
lists_are {states = states} is e written =
    rw (is, written.starts_are, written.columns_are, written.values_are, e)
