-- The rows of a matrix one after the other, in three lists: where each row begins, and the columns and the values of all entries.
use Rattle.std.specs.Prelude.{ℕ, ◌+◌, ◌^◌, ◌<◌, ◌≤◌, Bool, cond, ◌≡◌, Float, length, take, set}
use mathlib.Core.List.{List, [], ◌∷◌, ◌++◌, map, flat_map}
use Rattle.mathematics.specs.Counting.{below}
use Rattle.mathematics.specs.Writing.{put, front}
use Rattle.rows.specs.Row.{ColumnsDiffer, Sorted}

-- the entries of the first n rows
unfoldable pub rows_to : (ℕ → List (ℕ × Float)) → ℕ → List (ℕ × Float)
rows_to row n = flat_map row (below n)

-- a row begins where those before it end; the last start is where all end, so there is one more than rows
unfoldable pub row_starts : (ℕ → List (ℕ × Float)) → ℕ → List ℕ
row_starts row n = map (λ i. length (rows_to row i)) (below (n + 1))

unfoldable pub row_columns : (ℕ → List (ℕ × Float)) → ℕ → List ℕ
row_columns row n = map (λ e. e.0) (rows_to row n)

unfoldable pub row_values : (ℕ → List (ℕ × Float)) → ℕ → List Float
row_values row n = map (λ e. e.1) (rows_to row n)

-- ---- as the code keeps it
-- an entry stands behind the first n, where it is taken; r are then there
pub record EntryPushed (old : List (ℕ × Float)) (n : ℕ) (e : ℕ × Float) (taken : Bool) (r : ℕ) (new : List (ℕ × Float)) : Type 0 where
  pub front : take r new ≡ take n old ++ cond taken (e ∷ []) []
  pub count : r ≡ n + cond taken 1 0

-- row i, which begins at a place, is written: its entries, and where the next begins
pub record RowAppended (row : List (ℕ × Float)) (i at : ℕ) (starts columns : List ℕ) (values : List Float) (r : ℕ) (starts' columns' : List ℕ) (values' : List Float) : Type 0 where
  pub next : r ≡ at + length row
  pub starts_are : starts' ≡ set starts (i + 1) r
  pub columns_are : columns' ≡ put columns at (map (λ e. e.0) row)
  pub values_are : values' ≡ put values at (map (λ e. e.1) row)

-- the first i rows are written over three lists, and the next begins at a place
pub record RowsWritten (row : ℕ → List (ℕ × Float)) (i at : ℕ) (starts columns : List ℕ) (values : List Float) (starts' columns' : List ℕ) (values' : List Float) : Type 0 where
  pub next : at ≡ length (rows_to row i)
  pub starts_are : starts' ≡ front (row_starts row i) starts
  pub columns_are : columns' ≡ front (row_columns row i) columns
  pub values_are : values' ≡ front (row_values row i) values

-- some entries have room behind a place in the columns and in the values, and end below 2^32
pub record RowFits (entries : List (ℕ × Float)) (at columns_room values_room : ℕ) : Type 0 where
  pub columns_fit : at + length entries ≤ columns_room
  pub values_fit : at + length entries ≤ values_room
  pub small : at + length entries < 2 ^ 32

-- the entries of n rows, before they are sorted: no two entries of a row have one column, and there is room for all
pub record AllRowsFit (entries : ℕ → List (ℕ × Float)) (n columns_room values_room : ℕ) : Type 0 where
  pub differ : (i : ℕ) → i < n → ColumnsDiffer (entries i)
  pub columns_fit : length (rows_to entries n) ≤ columns_room
  pub values_fit : length (rows_to entries n) ≤ values_room
  pub small : length (rows_to entries n) < 2 ^ 32

-- each of the first n rows is its entries, sorted
abbrev pub SortedRows : (ℕ → List (ℕ × Float)) → (ℕ → List (ℕ × Float)) → ℕ → Type 0
SortedRows entries row n = (i : ℕ) → i < n → Sorted (entries i) (row i)

-- The first i rows are written, each of them its entries, sorted. Where no two entries of a row have one column, as `AllRowsFit` asks, there is
-- just one such row.
abbrev pub SortedWritten : (ℕ → List (ℕ × Float)) → ℕ → ℕ → List ℕ → List ℕ → List Float → List ℕ → List ℕ → List Float → Type 0
SortedWritten entries i at starts columns values starts' columns' values' =
    (row : ℕ → List (ℕ × Float)) → SortedRows entries row i → RowsWritten row i at starts columns values starts' columns' values'
