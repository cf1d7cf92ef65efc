-- The lists that the walk writes are those of the rows.
use Prim.Native.Nat.{ℕ, zero, suc, ◌+◌, ◌-◌, ◌^◌, ◌<◌, ◌≤◌}
use mathlib.Core.List.{List, ◌++◌, map, flat_map}
use mathlib.Core.Path.{◌≡◌, refl, sym, ap, ap₂, ◌∙◌}
use native.Mathlib.Numerals.{add-one}
use native.Mathlib.Omega.{arith}
use lib.Ieee.{Float}
use lib.ListN.{get_or, length, take, drop, length-map, length-drop, take-append-drop}
use lib.Seq.{ext_get_or, get_or-take, get_or-drop, length-take-le}
use Rattle.mathematics.specs.Counting.{below}
use Rattle.mathematics.specs.Writing.{front}
use Rattle.mathematics.proofs.Below.{length_below, map_below_at}
use Rattle.complex.specs.Complex.{Complex}
use Rattle.gauss_law.specs.Listing.{states}
use Rattle.matrices.specs.declared.coupling.KSParams.{KSParams}
use Rattle.rows.specs.RowLists.{rows_to, row_starts, row_columns, row_values, RowsWritten}
use Rattle.rows.proofs.RowsWritten.{rows_length_next}
use Rattle.rows.proofs.SortedRows.{rows_lengths}
use Rattle.entries.specs.Rows.{csr_row, csr_entries}
use Rattle.csr.specs.Words.{upper, begins, FirstWords}
use Rattle.csr.specs.Fill.{Walk, walk_entries, WalkAt, Writable, WalkOf}
use Rattle.csr.proofs.Walked.{entries_differ, rows_told, walking}

-- first words that are written over a list
first_front : (f : ℕ → ℕ) (n : ℕ) (old new : List ℕ) → n ≤ length old → FirstWords f n old new → new ≡ front (map f (below n)) old
first_front f n old new room words =
    sym (take-append-drop n new)
    ∙ ap₂ (λ a b. a ++ b) taken (dropped ∙ ap (λ k. drop k old) (sym long))
  where
    long : length (map f (below n)) ≡ n
    long = length-map (below n) f ∙ length_below n

    taken_long : length (take n new) ≡ n
    taken_long = length-take-le n new (omega (arith, words.long))

    taken : take n new ≡ map f (below n)
    taken =
        ext_get_or 0 (take n new) (map f (below n)) (taken_long ∙ sym long)
        (λ i h. let b : i < n = omega (arith, taken_long) in get_or-take n new i 0 b ∙ words.are i b ∙ sym (map_below_at f n i 0 b))

    dropped : drop n new ≡ drop n old
    dropped =
        ext_get_or 0 (drop n new) (drop n old) (length-drop n new ∙ ap (λ k. k - n) words.long ∙ sym (length-drop n old))
        (λ i h. get_or-drop n new i 0 ∙ words.rest (n + i) (omega arith) ∙ sym (get_or-drop n old i 0))

-- where a row begins, by the lengths of the rows before it
none_before : (row : ℕ → List (ℕ × Float)) → 0 ≡ length (rows_to row 0)
unfolding rows_to below flat_map
none_before row = refl

begins_told : (row : ℕ → List (ℕ × Float)) (lengths : ℕ → ℕ) (n : ℕ) → ((i : ℕ) → i < n → lengths i ≡ length (row i)) → (i : ℕ) → i ≤ n → begins lengths i ≡ length (rows_to row i)
unfolding begins
begins_told row lengths n are zero h = none_before row
begins_told row lengths n are (suc i) h =
    ap₂ (λ a b. a + b) (begins_told row lengths n are i (omega arith)) (are i h)
    ∙ sym (rows_length_next row i)
    ∙ ap (λ k. length (rows_to row k)) (add-one i)

module _ {c : Complex} {L : ℕ} {p : KSParams} {w : ℕ → Float} {free : List ℕ} {v : Walk} (is : WalkOf c L p w free v) where
  abbrev N : ℕ
  N = length (states c L)

  entries_number : (n : ℕ) → n ≡ N → length (rows_to (walk_entries v) n) ≡ csr_entries c L p w
  unfolding csr_entries
  entries_number n e = rw e (sym (rows_lengths (walk_entries v) (csr_row c L p w) N (rows_told is)))

  pub writable : (words : List ℕ) (columns_room values_room : ℕ) → N < length words → ((i : ℕ) → i < N → get_or words i 0 < 2 ^ 20) → csr_entries c L p w ≤ columns_room → csr_entries c L p w ≤ values_room → csr_entries c L p w < 2 ^ 32
      → Writable v words columns_room values_room
  writable words columns_room values_room room unset columns_fit values_fit small =
      let number = entries_number v.states is.count_states in
      let count = is.count_states in
      record {
        walking = walking is;
        room = omega arith;
        unset = λ i h. unset i (omega arith);
        fit =
            record {
              differ = λ i h. entries_differ is i (omega arith);
              columns_fit = omega arith;
              values_fit = omega arith;
              small = omega arith;
            };
      }

  lists_are : (numbers : ℕ → ℕ) (starts words columns : List ℕ) (values : List Float) (at : ℕ) (pointers words' starts' columns' : List ℕ) (values' : List Float) → N < length starts → FirstWords numbers N starts words
      → WalkAt v words columns values N at pointers words' columns' values' → FirstWords (begins (upper words')) (N + 1) words' starts'
      → RowsWritten (csr_row c L p w) N (csr_entries c L p w) starts columns values starts' columns' values'
  unfolding csr_entries row_starts row_columns row_values
  lists_are numbers starts words columns values at pointers words' starts' columns' values' room numbered walked started =
      let written = walked.written (csr_row c L p w) (rows_told is) in
      record {
        next = refl;
        starts_are = first_front (λ i. length (rows_to (csr_row c L p w) i)) (N + 1) starts starts' (omega arith)
            (record {
              are = λ i h. started.are i h ∙ begins_told (csr_row c L p w) (upper words') N (λ k b. walked.lengths k b ∙ sym (rows_told is k b).same.count) i (omega arith);
              rest = λ i h. started.rest i h ∙ walked.unset i (omega arith) ∙ numbered.rest i (omega arith);
              long = started.long ∙ walked.long ∙ numbered.long;
            });
        columns_are = written.columns_are;
        values_are = written.values_are;
      }

  -- the same of n states, where that is their number
  pub lists_written : (n : ℕ) → n ≡ N → (numbers : ℕ → ℕ) (starts words columns : List ℕ) (values : List Float) (at : ℕ) (pointers words' starts' columns' : List ℕ) (values' : List Float) → n < length starts → FirstWords numbers n starts words
      → WalkAt v words columns values n at pointers words' columns' values' → FirstWords (begins (upper words')) (n + 1) words' starts'
      → RowsWritten (csr_row c L p w) n (csr_entries c L p w) starts columns values starts' columns' values'
  lists_written n e numbers starts words columns values at pointers words' starts' columns' values' room numbered walked started =
      rw e (lists_are numbers starts words columns values at pointers words' starts' columns' values' (rw e at room) (rw e at numbered) (rw e at walked) (rw e at started))

  -- the starts are below 2^32
  pub starts_fit : (n : ℕ) → n ≡ N → (words columns : List ℕ) (values : List Float) (at : ℕ) (pointers words' columns' : List ℕ) (values' : List Float)
      → WalkAt v words columns values n at pointers words' columns' values' → csr_entries c L p w < 2 ^ 32 → begins (upper words') n < 2 ^ 32
  starts_fit n e words columns values at pointers words' columns' values' walked small =
      let ends : begins (upper words') n ≡ length (rows_to (walk_entries v) n) = begins_told (walk_entries v) (upper words') n walked.lengths n (omega arith) in
      omega (arith, ends, entries_number n e, small)
