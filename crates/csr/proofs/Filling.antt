-- Rows made one after the other by the walk over the states.
use Prim.Native.Nat.{ℕ, zero, suc, ◌+◌, ◌*◌, ◌/◌, ◌^◌, ◌<◌, ◌≤◌}
use mathlib.Core.List.{List, []}
use mathlib.Core.Path.{◌≡◌, refl, sym, ap, ◌∙◌, fun_ext}
use native.Mathlib.Numerals.{add-one}
use native.Mathlib.Omega.{arith}
use native.Mathlib.Decide.{ℕ_discrete}
use borrow.Author.Tests.{ltb-true, ltb-false}
use mathlib.Core.Bool.{Bool, true, false}
use lib.Dec.{ltb}
use lib.IntN.{ℤ}
use lib.Ieee.{Float}
use lib.ListN.{get_or, length, set, take, length-set, replicate, length-replicate, get_or-replicate, get_or-eq_default}
use lib.Seq.{paste, get_or-take, length-take-le, get_or-set_same, get_or-set_other}
use Rattle.matrices.specs.Squares.{squares, energy}
use Rattle.rows.specs.Entries.{pairs}
use Rattle.rows.specs.Row.{ColumnsDiffer, Sorted}
use Rattle.rows.specs.RowLists.{RowAppended, RowsWritten, RowFits}
use Rattle.rows.proofs.RowsWritten.{row_copied, none_written}
use Rattle.rows.proofs.SortedRows.{fits_at, added_next, added_written}
use Rattle.hilbert.specs.Search.{row}
use Rattle.csr.specs.declared.fill.RowRoom.{RowRoom}
use Rattle.rows.proofs.Pairs.{pairs_length}
use Rattle.moves.specs.Numbers.{lower, number_in}
use Rattle.moves.specs.Moves.{tables, collected, pointed, Pointers}
use Rattle.moves.proofs.Collecting.{pointed_pointers, collected_agree, pointed_agree}
use Rattle.csr.specs.Fill.{Walk, walk_of, entries_from, pointers_after, pointers_at, walk_entries, RowFound, RowDone, WalkAt, Writable}

-- what was collected for state i, by the words of the states alone, is sorted
module _ (v : Walk) (words : List ℕ) (numbers_are : number_in words ≡ v.numbers) (n : ℕ) (n_is : n ≡ v.states) (i : ℕ) (pointers : List ℕ) (s : List ℤ) (a : ℕ) (x : Float) (s_is : s ≡ v.state i) (a_is : a ≡ v.numbers i)
    (x_is : x ≡ energy v.electric (squares (v.state i))) (l : List (ℕ × Float)) (found : l ≡ collected v.moves v.truncation (number_in (take v.states words)) n s a pointers i x v.count) where
  same_numbers : (q : ℕ) → q < v.states → number_in (take v.states words) q ≡ v.numbers q
  same_numbers q h = ap lower (get_or-take v.states words q 0 h) ∙ ap (λ f. f q) numbers_are

  entries_are : l ≡ entries_from v pointers i
  unfolding entries_from
  entries_are = found ∙ rw (n_is, collected_agree v.moves v.truncation (number_in (take v.states words)) v.numbers v.states same_numbers s a pointers i x v.count, s_is, a_is, x_is)

  pub collected_differ : ColumnsDiffer (entries_from v pointers i) → ColumnsDiffer l
  collected_differ differ = rw entries_are differ

  pub row_found : (r : ℕ) (new : List (ℕ × Float)) (pointers' : List ℕ) → Sorted l (take r new)
      → pointers' ≡ pointed v.moves v.truncation (number_in (take v.states words)) n s a pointers v.count → RowFound v i pointers r pointers' new
  unfolding pointers_after
  row_found r new pointers' sorted moved =
      record {
        is = rw (← entries_are) sorted;
        pointers_are = moved ∙ rw (n_is, pointed_agree v.moves v.truncation (number_in (take v.states words)) v.numbers v.states same_numbers s a pointers v.count, s_is, a_is);
      }

-- and its copy behind the rows before it
pub row_done : (v : Walk) (i at : ℕ) (pointers words columns : List ℕ) (values : List Float) (r : ℕ) (pointers' row_columns : List ℕ) (row_values : List Float) (words' columns' : List ℕ) (values' : List Float)
    → RowFound v i pointers r pointers' (pairs row_columns row_values) → r ≤ length row_columns → length row_columns ≡ length row_values
    → words' ≡ set words i (get_or words i 0 + 1048576 * r) → columns' ≡ paste columns at row_columns r → values' ≡ paste values at row_values r
    → RowDone v i at pointers words columns values (at + r) pointers' words' columns' values'
row_done v i at pointers words columns values r pointers' row_columns row_values words' columns' values' found room same words_are columns_are values_are =
    let copied = row_copied row_columns row_values r i at [] columns values room same in
    let long : r ≡ length (take r (pairs row_columns row_values)) = omega (arith, copied.next) in
    record {
      line = take r (pairs row_columns row_values);
      is = found.is;
      next = copied.next;
      columns_are = columns_are ∙ copied.columns_are;
      values_are = values_are ∙ copied.values_are;
      pointers_are = found.pointers_are;
      words_are = words_are ∙ ap (λ k. set words i (get_or words i 0 + 1048576 * k)) long;
    }

-- a row for which there is room
found_fits : (v : Walk) (i at r columns_room values_room : ℕ) (pointers pointers' : List ℕ) (new : List (ℕ × Float)) → RowFound v i pointers r pointers' new → r ≤ length new
    → RowFits (entries_from v pointers i) at columns_room values_room → (at + r ≤ columns_room) × (at + r ≤ values_room) × (at + r < 2 ^ 32)
found_fits v i at r columns_room values_room pointers pointers' new found room fits =
    let long : r ≡ length (entries_from v pointers i) = sym (length-take-le r new room) ∙ found.is.same.count in
    (omega (arith, long, fits.columns_fit), omega (arith, long, fits.values_fit), omega (arith, long, fits.small))

-- a row of the room, for which there is room in two lists
module _ (v : Walk) (i at r columns_room values_room : ℕ) (pointers : List ℕ) (room : RowRoom) (found : RowFound v i pointers r room.pointers (pairs room.columns room.values)) (few : r ≤ v.count + 1) (moves_few : v.count ≤ 512)
    (fits : RowFits (entries_from v pointers i) at columns_room values_room) where
  front : r ≤ length (pairs room.columns room.values)
  front = omega (arith, few, moves_few, room.columns_long, pairs_length room.columns room.values (room.columns_long ∙ sym room.values_long))

  pub room_fits : (r ≤ length room.columns) × (r ≤ length room.values) × (at + r ≤ columns_room) × (at + r ≤ values_room)
  room_fits =
      let there = found_fits v i at r columns_room values_room pointers room.pointers (pairs room.columns room.values) found front fits in
      (omega (arith, few, moves_few, room.columns_long), omega (arith, few, moves_few, room.values_long), there.0, there.1)

  pub row_small : at + r < 2 ^ 32
  row_small = (found_fits v i at r columns_room values_room pointers room.pointers (pairs room.columns room.values) found front fits).2

-- ---- row after row
lower_kept : (x n : ℕ) → lower (x + 1048576 * n) ≡ lower x
unfolding lower
lower_kept x n = omega arith

upper_is : (x n : ℕ) → x < 2 ^ 20 → (x + 1048576 * n) / 1048576 ≡ n
upper_is x n h = omega arith

-- a word with a length has the same number
numbers_kept : (words : List ℕ) (i n : ℕ) → i < length words → number_in (set words i (get_or words i 0 + 1048576 * n)) ≡ number_in words
numbers_kept words i n h = fun_ext (λ p. go p (ℕ_discrete p i))
  where
    go : (p : ℕ) → Dec (p ≡ i) → number_in (set words i (get_or words i 0 + 1048576 * n)) p ≡ number_in words p
    go p (yes e) = rw (e, get_or-set_same words i (get_or words i 0 + 1048576 * n) 0 h) (lower_kept (get_or words i 0) n)
    go p (no e) = ap lower (get_or-set_other words i p (get_or words i 0 + 1048576 * n) 0 e)

module _ (v : Walk) (words₀ columns₀ : List ℕ) (values₀ : List Float) (writable : Writable v words₀ (length columns₀) (length values₀)) where
  pub walk_start : (words : List ℕ) → words ≡ words₀ → number_in words ≡ v.numbers → (pointers : List ℕ) → pointers ≡ replicate 512 0 → WalkAt v words₀ columns₀ values₀ 0 0 pointers words columns₀ values₀
  unfolding pointers_at
  walk_start words same is pointers none =
      record {
        next = (start (walk_entries v)).next;
        pointers_are = none;
        numbers_are = is;
        unset = λ k h. ap (λ l. get_or l k 0) same;
        lengths = λ k h. absurd (omega arith);
        long = ap length same;
        starts = set words₀ 0 0;
        written = λ row sorted. start row;
      }
    where
      start : (row : ℕ → List (ℕ × Float)) → RowsWritten row 0 0 words₀ columns₀ values₀ (set words₀ 0 0) columns₀ values₀
      start row = none_written row words₀ columns₀ values₀ (omega (arith, writable.room))

  module _ (i at : ℕ) (pointers words columns : List ℕ) (values : List Float) (so_far : WalkAt v words₀ columns₀ values₀ i at pointers words columns values) (inside : i < v.states) where
    pub walk_fits : RowFits (entries_from v pointers i) at (length columns₀) (length values₀)
    unfolding walk_entries
    walk_fits = rw so_far.pointers_are (fits_at writable.fit i at inside so_far.next)

    pub walk_differ : ColumnsDiffer (entries_from v pointers i)
    unfolding walk_entries
    walk_differ = rw so_far.pointers_are (writable.fit.differ i inside)

    pub walk_unset : get_or words i 0 < 2 ^ 20
    walk_unset = rw (so_far.unset i (omega arith)) (writable.unset i inside)

    -- one row more
    pub walk_step : (r : ℕ) (pointers' words' columns' : List ℕ) (values' : List Float) → RowDone v i at pointers words columns values r pointers' words' columns' values'
        → WalkAt v words₀ columns₀ values₀ (i + 1) r pointers' words' columns' values'
    unfolding pointers_at walk_entries
    walk_step r pointers' words' columns' values' done =
        let is : Sorted (walk_entries v i) done.line = rw (← so_far.pointers_are) done.is in
        let appended : RowAppended done.line i at so_far.starts columns values r (set so_far.starts (i + 1) r) columns' values' = record { next = done.next; starts_are = refl; columns_are = done.columns_are; values_are = done.values_are } in
        let there : i < length words = omega (arith, so_far.long, writable.room) in
        record {
          next = added_next writable.fit i at inside so_far.next done.line is so_far.starts columns values r (set so_far.starts (i + 1) r) columns' values' appended;
          pointers_are = done.pointers_are ∙ rw (add-one i, so_far.pointers_are);
          numbers_are = ap number_in done.words_are ∙ numbers_kept words i (length done.line) there ∙ so_far.numbers_are;
          unset = λ k h. ap (λ l. get_or l k 0) done.words_are ∙ get_or-set_other words i k _ 0 (λ e. omega arith) ∙ so_far.unset k (omega arith);
          lengths = λ k h. lengths' k h (ℕ_discrete k i) there is.same.count;
          long = ap length done.words_are ∙ length-set words i _ ∙ so_far.long;
          starts = set so_far.starts (i + 1) r;
          written =
              added_written writable.fit i at inside so_far.next done.line is so_far.starts columns values r (set so_far.starts (i + 1) r) columns' values' appended
              words₀ columns₀ values₀ writable.room refl refl so_far.written;
        }
      where
        lengths' : (k : ℕ) → k < i + 1 → Dec (k ≡ i) → i < length words → length done.line ≡ length (walk_entries v i) → get_or words' k 0 / 1048576 ≡ length (walk_entries v k)
        lengths' k h (yes e) there count =
            rw (e, done.words_are, get_or-set_same words i (get_or words i 0 + 1048576 * length done.line) 0 there, upper_is (get_or words i 0) (length done.line) walk_unset) count
        lengths' k h (no e) there count =
            rw (done.words_are, get_or-set_other words i k (get_or words i 0 + 1048576 * length done.line) 0 e) (so_far.lengths k (omega arith))

-- the pointers stay in range
pub walk_pointers : (v : Walk) (i : ℕ) → Pointers v.states (pointers_at v i)
unfolding pointers_at pointers_after
walk_pointers v zero = record { long = length-replicate {A = ℕ} 512 0; below = λ k. go k (ltb k 512) refl }
  where
    go : (k : ℕ) (b : Bool) → ltb k 512 ≡ b → get_or (replicate {A = ℕ} 512 0) k 0 ≤ v.states
    go k true h = rw (get_or-replicate {A = ℕ} 512 k 0 0 (ltb-true k 512 h)) (omega arith)
    go k false h = rw (get_or-eq_default {A = ℕ} (replicate 512 0) 0 {n = k} (omega (arith, length-replicate {A = ℕ} 512 0, ltb-false k 512 h))) (omega arith)
walk_pointers v (suc i) =
    pointed_pointers v.moves v.truncation v.numbers v.states (v.state i) (v.numbers i) (pointers_at v i) v.count (walk_pointers v i)

-- the same walk, by words with the same numbers
pub walk_same : (sides keys : List ℕ) (terms : List Float) (count L : ℕ) (words words₀ : List ℕ) (n : ℕ) (list : List ℤ) (m : ℕ) (electric : Float) → number_in words ≡ number_in words₀
    → walk_of sides keys terms count L words n list m electric ≡ walk_of sides keys terms count L words₀ n list m electric
walk_same sides keys terms count L words words₀ n list m electric e =
    ap (λ f. record { moves = tables sides keys terms; count = count; truncation = L; numbers = f; states = n; state = row m list; electric = electric }) e

pub differ_same : {v v' : Walk} → v' ≡ v → (pointers : List ℕ) (i : ℕ) → ColumnsDiffer (entries_from v pointers i) → ColumnsDiffer (entries_from v' pointers i)
differ_same e pointers i h = rw e h

pub fits_same : {v v' : Walk} → v' ≡ v → (pointers : List ℕ) (i at columns_room values_room : ℕ) → RowFits (entries_from v pointers i) at columns_room values_room → RowFits (entries_from v' pointers i) at columns_room values_room
fits_same e pointers i at columns_room values_room h = rw e h

pub done_same : {v v' : Walk} → v' ≡ v → {i at : ℕ} {pointers words columns : List ℕ} {values : List Float} {r : ℕ} {pointers' words' columns' : List ℕ} {values' : List Float}
    → RowDone v' i at pointers words columns values r pointers' words' columns' values' → RowDone v i at pointers words columns values r pointers' words' columns' values'
done_same e h = rw (← e) h
