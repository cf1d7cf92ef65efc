-- Rows that are written one after the other into three lists.
use Prim.Native.Nat.{ℕ, zero, suc, ◌+◌, ◌-◌, ◌≤◌, ◌<◌}
use mathlib.Core.List.{List, [], ◌∷◌, ◌++◌, append-nil, map, map-append, flat_map}
use mathlib.Core.Bool.{Bool, true, false}
use mathlib.Core.Path.{◌≡◌, refl, sym, ap, ◌∙◌}
use native.Mathlib.Nat.{add-zero, zero-add}
use native.Mathlib.Numerals.{add-one}
use native.Mathlib.Omega.{arith}
use lib.Ieee.{Float}
use lib.ListN.{length, take, drop, set, length-append, length-map}
use lib.Seq.{paste, length-take-le, take-set-le, take-suc-set}
use mir.Val.{bool_byte}
use Rattle.mathematics.specs.Counting.{below}
use Rattle.mathematics.specs.Writing.{put, front}
use Rattle.mathematics.proofs.Below.{length_below}
use Rattle.mathematics.proofs.Flat.{flat_map_last}
use Rattle.mathematics.proofs.Front.{store}
use Rattle.mathematics.proofs.Puts.{put_front, put_more}
use Rattle.mathematics.proofs.Totals.{total}
use Rattle.rows.specs.Entries.{pairs}
use Rattle.rows.specs.RowLists.{rows_to, row_starts, row_columns, row_values, EntryPushed, RowAppended, RowsWritten}
use Rattle.rows.proofs.Pairs.{pairs_length, pairs_set}

-- ---- the entries of the first rows
module _ (row : ℕ → List (ℕ × Float)) where
  pub rows_next : (i : ℕ) → rows_to row (i + 1) ≡ rows_to row i ++ row i
  unfolding rows_to below
  rows_next i = rw (add-one i) (flat_map_last row (below i) i)

  pub rows_length_next : (i : ℕ) → length (rows_to row (i + 1)) ≡ length (rows_to row i) + length (row i)
  rows_length_next i = rw (rows_next i) (length-append (rows_to row i) (row i))

  -- as many as all rows have
  pub rows_length : (n : ℕ) → length (rows_to row n) ≡ total (λ i. length (row i)) n
  unfolding rows_to below total flat_map
  rows_length zero = refl
  rows_length (suc n) = rw (flat_map_last row (below n) n, length-append (flat_map row (below n)) (row n)) (ap (λ k. k + length (row n)) (rows_length n))

  rises_by : (d i : ℕ) → length (rows_to row i) ≤ length (rows_to row (i + d))
  rises_by zero i = let e : i + 0 ≡ i = omega arith in rw e (omega arith)
  rises_by (suc d) i =
      let e : i + suc d ≡ i + d + 1 = omega arith in
      rw (e, rows_length_next (i + d)) (omega (arith, rises_by d i))

  pub rows_rise : (i n : ℕ) → i ≤ n → length (rows_to row i) ≤ length (rows_to row n)
  rows_rise i n h =
      let e : i + (n - i) ≡ n = omega arith in
      rw e at (rises_by (n - i) i)

  pub starts_length : (n : ℕ) → length (row_starts row n) ≡ n + 1
  unfolding row_starts
  starts_length n = length-map (below (n + 1)) (λ i. length (rows_to row i)) ∙ length_below (n + 1)

  starts_next : (i : ℕ) → row_starts row (i + 1) ≡ row_starts row i ++ (length (rows_to row (i + 1)) ∷ [])
  unfolding row_starts below
  starts_next i =
      ap (λ k. map (λ i. length (rows_to row i)) (below k)) (add-one (i + 1))
      ∙ map-append (λ i. length (rows_to row i)) (below (i + 1)) ((i + 1) ∷ [])

  -- ---- written over three lists
  module _ (starts columns : List ℕ) (values : List Float) where
    pub none_written : 0 < length starts → RowsWritten row 0 0 starts columns values (set starts 0 0) columns values
    unfolding rows_to row_starts row_columns row_values below flat_map
    none_written some = record { next = refl; starts_are = first starts some; columns_are = refl; values_are = refl }
      where
        first : (l : List ℕ) → 0 < length l → set l 0 0 ≡ 0 ∷ drop 1 l
        first [] h = absurd (omega arith)
        first (x ∷ l) h = refl

  -- one row more, behind those that stand
  behind : {A : Type 0} (f : ℕ × Float → A) (old now new : List A) (i at : ℕ) → at ≡ length (rows_to row i) → at ≤ length old
      → now ≡ front (map f (rows_to row i)) old → new ≡ put now at (map f (row i)) → new ≡ front (map f (rows_to row (i + 1))) old
  behind f old now new i at e room is written =
      let long : length (map f (rows_to row i)) ≡ 0 + at = length-map (rows_to row i) f ∙ sym e ∙ sym (zero-add at) in
      written ∙ rw (is, ← (put_front old (map f (rows_to row i))))
      (ap (λ k. put (put old 0 (map f (rows_to row i))) k (map f (row i))) (sym (zero-add at) ∙ sym long ∙ sym (zero-add _))
      ∙ (put_more old 0 (map f (rows_to row i)) (map f (row i)) (omega arith)
      ∙ (put_front old (map f (rows_to row i) ++ map f (row i))
      ∙ ap (λ l. front l old) (sym (map-append f (rows_to row i) (row i)) ∙ ap (map f) (sym (rows_next i))))))

  pub row_written : (starts columns : List ℕ) (values : List Float) (starts₁ columns₁ : List ℕ) (values₁ : List Float) (starts₂ columns₂ : List ℕ) (values₂ : List Float) (i at r : ℕ)
      → i + 1 < length starts → length (rows_to row (i + 1)) ≤ length columns → length (rows_to row (i + 1)) ≤ length values
      → RowsWritten row i at starts columns values starts₁ columns₁ values₁ → RowAppended (row i) i at starts₁ columns₁ values₁ r starts₂ columns₂ values₂
      → RowsWritten row (i + 1) r starts columns values starts₂ columns₂ values₂
  unfolding row_columns row_values
  row_written starts columns values starts₁ columns₁ values₁ starts₂ columns₂ values₂ i at r room columns_room values_room so_far more =
      let next : r ≡ length (rows_to row (i + 1)) = omega (arith, more.next, so_far.next, rows_length_next i) in
      let count = rows_length_next i in
      let start = so_far.next in
      record {
        next = next;
        starts_are =
            more.starts_are ∙ rw (so_far.starts_are, starts_length i, next)
            (store (row_starts row i) starts (i + 1) (length (rows_to row (i + 1))) 0 (starts_length i) room
            ∙ ap (λ l. l ++ drop (i + 1 + 1) starts) (sym (starts_next i))
            ∙ ap (λ k. row_starts row (i + 1) ++ drop k starts) (sym (starts_length (i + 1))));
        columns_are = behind (λ e. e.0) columns columns₁ columns₂ i at so_far.next (omega arith) so_far.columns_are more.columns_are;
        values_are = behind (λ e. e.1) values values₁ values₂ i at so_far.next (omega arith) so_far.values_are more.values_are;
      }

-- ---- a row in two lists
-- an entry behind the first n, where it is taken
module _ (columns : List ℕ) (values : List Float) (n column : ℕ) (value : Float) (room : n < length columns) (same : length columns ≡ length values) where
  pub entry_pushed : (taken : Bool) → EntryPushed (pairs columns values) n (column, value) taken (n + bool_byte taken) (pairs (set columns n column) (set values n value))
  entry_pushed true =
      record {
        front = rw (pairs_set columns values n column value, add-one n) (take-suc-set (pairs columns values) n (column, value) (omega (arith, pairs_length columns values same)));
        count = refl;
      }
  entry_pushed false =
      record {
        front =
            rw (add-zero n, pairs_set columns values n column value) (take-set-le n (pairs columns values) n (column, value) (omega arith) ∙ sym (append-nil (take n (pairs columns values))));
        count = refl;
      }

columns_taken : (columns : List ℕ) (values : List Float) (m : ℕ) → length columns ≡ length values → map (λ e. e.0) (take m (pairs columns values)) ≡ take m columns
unfolding pairs
columns_taken [] values zero e = refl
columns_taken [] values (suc m) e = refl
columns_taken (j ∷ columns) [] m e = absurd (omega arith)
columns_taken (j ∷ columns) (x ∷ values) zero e = refl
columns_taken (j ∷ columns) (x ∷ values) (suc m) e = ap (λ l. j ∷ l) (columns_taken columns values m (omega arith))

values_taken : (columns : List ℕ) (values : List Float) (m : ℕ) → length columns ≡ length values → map (λ e. e.1) (take m (pairs columns values)) ≡ take m values
unfolding pairs
values_taken [] [] zero e = refl
values_taken [] [] (suc m) e = refl
values_taken [] (x ∷ values) m e = absurd (omega arith)
values_taken (j ∷ columns) [] m e = absurd (omega arith)
values_taken (j ∷ columns) (x ∷ values) zero e = refl
values_taken (j ∷ columns) (x ∷ values) (suc m) e = ap (λ l. x ∷ l) (values_taken columns values m (omega arith))

taken_put : {A : Type 0} (d : List A) (at : ℕ) (s : List A) (m : ℕ) → m ≤ length s → paste d at s m ≡ put d at (take m s)
unfolding put
taken_put d at s m h = rw (length-take-le m s h)

pub row_copied : (row_columns : List ℕ) (row_values : List Float) (m i at : ℕ) (starts columns : List ℕ) (values : List Float) → m ≤ length row_columns → length row_columns ≡ length row_values
    → RowAppended (take m (pairs row_columns row_values)) i at starts columns values (at + m) (set starts (i + 1) (at + m)) (paste columns at row_columns m) (paste values at row_values m)
row_copied row_columns row_values m i at starts columns values h same =
    let long : length (take m (pairs row_columns row_values)) ≡ m = length-take-le m (pairs row_columns row_values) (omega (arith, pairs_length row_columns row_values same)) in
    record {
      next = rw long;
      starts_are = refl;
      columns_are = rw (columns_taken row_columns row_values m same) (taken_put columns at row_columns m h);
      values_are = rw (values_taken row_columns row_values m same) (taken_put values at row_values m (omega arith));
    }
