-- Finished row lists hold the rows of a matrix one after the other. Their product with a vector is the sum of each row, and they pass where each
-- entry has a column below the number of rows and a value in its range.
use Prim.Native.Nat.{ℕ, zero, suc, ◌+◌, ◌-◌, ◌<◌, ◌≤◌}
use mathlib.Core.List.{List, [], ◌∷◌, ◌++◌, flat_map, map, map-append}
use mathlib.Core.Bool.{Bool, true, false, ◌&&◌}
use mathlib.Core.Path.{◌≡◌, refl, sym, ap, ◌∙◌}
use native.Mathlib.Numerals.{add-one}
use native.Mathlib.Omega.{arith}
use borrow.Author.Tests.{eq-eqb, ne_eqb, le-leb}
use lib.Dec.{leb, ltb}
use lib.Ieee.{Float, nan}
use lib.ListN.{get_or, length, take, length-map}
use lib.Seq.{take-length, take-append-le, drop-append_seam}
use Rattle.mathematics.specs.Tests.{every_entry}
use Rattle.mathematics.specs.Counting.{below}
use Rattle.mathematics.specs.Refusals.{first}
use Rattle.mathematics.proofs.Below.{map_below_at}
use Rattle.mathematics.proofs.Counting.{at_every}
use Rattle.mathematics.proofs.Maps.{map_at}
use Rattle.mathematics.proofs.Tests.{and_parts, and_both, all_append, all_at, at_all}
use Rattle.rows.specs.Entries.{pairs}
use Rattle.rows.specs.RowLists.{rows_to, row_starts, row_columns, row_values}
use Rattle.rows.proofs.RowsWritten.{rows_next, rows_rise, starts_length}
use Rattle.matvec.specs.Product.{row_entries, row_sum, product, never_falls, starts_right, columns_right, value_right}
use Rattle.held_rows.specs.Lists.{row_count, list_lengths_wrong, list_places_wrong, values_wrong, lists_tests, ValidLists}
use Rattle.held_rows.proofs.Judging.{lists_valid}

-- an entry of n columns, with a value in its range
abbrev pub entry_right : ℕ → ℕ × Float → Bool
entry_right n e = ltb e.0 n && value_right e.1

pairs_back : (l : List (ℕ × Float)) → pairs (map (λ e. e.0) l) (map (λ e. e.1) l) ≡ l
unfolding pairs
pairs_back [] = refl
pairs_back (e ∷ l) = ap (λ m. e ∷ m) (pairs_back l)

map_agree : {A : Type 0} (f g : ℕ → A) (n : ℕ) → ((i : ℕ) → i < n → f i ≡ g i) → map f (below n) ≡ map g (below n)
unfolding below
map_agree f g zero h = refl
map_agree f g (suc n) h =
    map-append f (below n) (n ∷ []) ∙ rw (map_agree f g n (λ i il. h i (omega arith)), h n (omega arith)) (sym (map-append g (below n) (n ∷ [])))

module _ (row : ℕ → List (ℕ × Float)) (n : ℕ) where
  start_at : (i : ℕ) → i ≤ n → get_or (row_starts row n) i 0 ≡ length (rows_to row i)
  unfolding row_starts
  start_at i h = map_below_at (λ i. length (rows_to row i)) (n + 1) i 0 (omega arith)

  rows_counted : row_count (row_starts row n) ≡ n
  rows_counted = omega (arith, starts_length row n)

  finished_lengths : list_lengths_wrong (row_starts row n) (row_columns row n) (row_values row n) ≡ false
  unfolding row_columns row_values
  finished_lengths =
      let some : length (row_starts row n) ≡ 0 → ⊥ = λ z. omega (arith, starts_length row n) in
      rw (ne_eqb (length (row_starts row n)) 0 some, length-map (rows_to row n) (λ e. e.0), length-map (rows_to row n) (λ e. e.1), eq-eqb (length (rows_to row n)) (length (rows_to row n)) refl) refl

  finished_starts : starts_right (row_starts row n) n (length (row_columns row n)) ≡ true
  unfolding starts_right never_falls row_columns rows_to below flat_map
  finished_starts =
      rw (start_at 0 (omega arith), start_at n (omega arith), length-map (rows_to row n) (λ e. e.0), eq-eqb (length (rows_to row n)) (length (rows_to row n)) refl)
      (at_every (λ i. leb (get_or (row_starts row n) i 0) (get_or (row_starts row n) (i + 1) 0)) n (λ i h. rw (start_at i (omega arith), start_at (i + 1) (omega arith)) (le-leb _ _ (rows_rise row i (i + 1) (omega arith)))))

  -- the first rows stand in front
  rows_in_front : (d i : ℕ) → take (length (rows_to row i)) (rows_to row (i + d)) ≡ rows_to row i
  rows_in_front zero i = let e : i + 0 ≡ i = omega arith in rw e (take-length (rows_to row i))
  rows_in_front (suc d) i =
      let e : i + suc d ≡ i + d + 1 = omega arith in
      let fits : length (rows_to row i) ≤ length (rows_to row (i + d)) = rows_rise row i (i + d) (omega arith) in
      rw (e, rows_next row (i + d), take-append-le (length (rows_to row i)) (rows_to row (i + d)) (row (i + d)) fits) (rows_in_front d i)

  -- row i of the finished lists is row i
  finished_row : (i : ℕ) → i < n → row_entries (row_starts row n) (row_columns row n) (row_values row n) i ≡ row i
  unfolding row_entries row_columns row_values
  finished_row i h =
      let e : i + 1 + (n - (i + 1)) ≡ n = omega arith in
      let front : take (length (rows_to row (i + 1))) (rows_to row n) ≡ rows_to row i ++ row i = rw e at (rows_in_front (n - (i + 1)) (i + 1)) ∙ rows_next row i in
      rw (start_at i (omega arith), start_at (i + 1) (omega arith), pairs_back (rows_to row n), front) (drop-append_seam (rows_to row i) (row i))

  -- so their product with a vector is the sum of each row
  pub finished_product : (vector : List Float) → length vector ≡ n → product (row_starts row n) (row_columns row n) (row_values row n) vector ≡ map (λ i. row_sum vector (row i)) (below n)
  unfolding product
  finished_product vector long =
      rw long (map_agree (λ i. row_sum vector (row_entries (row_starts row n) (row_columns row n) (row_values row n) i)) (λ i. row_sum vector (row i)) n (λ i h. ap (row_sum vector) (finished_row i h)))

  module _ (right : (i : ℕ) → i < n → every_entry (entry_right n) (row i) ≡ true) where
    all_right : (m : ℕ) → m ≤ n → every_entry (entry_right n) (rows_to row m) ≡ true
    unfolding rows_to below every_entry flat_map
    all_right zero h = refl
    all_right (suc m) h =
        ap (λ k. every_entry (entry_right n) (rows_to row k)) (sym (add-one m))
        ∙ ap (every_entry (entry_right n)) (rows_next row m)
        ∙ all_append (entry_right n) (rows_to row m) (row m)
        ∙ and_both (every_entry (entry_right n) (rows_to row m)) (every_entry (entry_right n) (row m)) (all_right m (omega arith)) (right m (omega arith))

    entry_at : (k : ℕ) → k < length (rows_to row n) → (ltb (get_or (rows_to row n) k (0, nan)).0 n ≡ true) × (value_right (get_or (rows_to row n) k (0, nan)).1 ≡ true)
    entry_at k h =
        let e = get_or (rows_to row n) k (0, nan) in
        and_parts (ltb e.0 n) (value_right e.1) (all_at (entry_right n) (0, nan) (rows_to row n) (all_right n (omega arith)) k h)

    finished_columns : columns_right (row_columns row n) n ≡ true
    unfolding columns_right row_columns
    finished_columns = at_all (λ j. ltb j n) 0 (map (λ e. e.0) (rows_to row n)) (λ k h.
        let il : k < length (rows_to row n) = rw (length-map (rows_to row n) (λ e. e.0)) at h in
        rw (map_at (λ e. e.0) (0, nan) 0 (rows_to row n) k il) (entry_at k il).0)

    finished_values : every_entry value_right (row_values row n) ≡ true
    unfolding row_values
    finished_values = at_all value_right nan (map (λ e. e.1) (rows_to row n)) (λ k h.
        let il : k < length (rows_to row n) = rw (length-map (rows_to row n) (λ e. e.1)) at h in
        rw (map_at (λ e. e.1) (0, nan) nan (rows_to row n) k il) (entry_at k il).1)

    pub finished_pass : (first (lists_tests (row_starts row n) (row_columns row n) (row_values row n)) ≡ 0) × ValidLists (row_starts row n) (row_columns row n) (row_values row n)
    unfolding first
    finished_pass =
        let places : list_places_wrong (row_starts row n) (row_columns row n) ≡ false = rw (rows_counted, finished_starts, finished_columns) refl in
        let numbers : values_wrong (row_values row n) ≡ false = rw finished_values refl in
        (rw (finished_lengths, places, numbers) refl, lists_valid _ _ _ finished_lengths places numbers)
