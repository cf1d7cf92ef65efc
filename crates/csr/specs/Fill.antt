-- The rows as the code makes them, one after the other.
use Rattle.std.specs.Prelude.{ℕ, zero, suc, ◌+◌, ◌*◌, ◌/◌, ◌^◌, ◌<◌, ◌≤◌, List, [], map, ◌≡◌, ℤ, Float, get_or, length, set, take, replicate}
use Rattle.mathematics.specs.Writing.{put}
use Rattle.complex.specs.Complex.{Complex}
use Rattle.complex.specs.Judge.{Accepted}
use Rattle.gauss_law.specs.Listing.{free_edges, states, limit}
use Rattle.matrices.specs.declared.coupling.KSParams.{KSParams}
use Rattle.matrices.specs.Squares.{squares, energy}
use Rattle.rows.specs.Row.{Sorted}
use Rattle.rows.specs.RowLists.{rows_to, AllRowsFit, SortedWritten}
use Rattle.hilbert.specs.Search.{row}
use Rattle.moves.specs.Numbers.{number, number_in}
use Rattle.moves.specs.Moves.{Moves, tables, collected, pointed, StateMoves}
use Rattle.moves.specs.Tables.{MovesWritten}

-- the moves in their tables, the states of a list with their numbers, and the electric factor
pub record Walk : Type 0 where
  pub moves : Moves
  pub count : ℕ
  pub truncation : ℕ
  pub numbers : ℕ → ℕ
  pub states : ℕ
  pub state : ℕ → List ℤ
  pub electric : Float

abbrev pub walk_of : List ℕ → List ℕ → List Float → ℕ → ℕ → List ℕ → ℕ → List ℤ → ℕ → Float → Walk
walk_of sides keys terms count L words n list m electric =
    record {
      moves = tables sides keys terms;
      count = count;
      truncation = L;
      numbers = number_in words;
      states = n;
      state = row m list;
      electric = electric;
    }

-- the entries of row i and the pointers after it, by the pointers before it
unfoldable pub entries_from : Walk → List ℕ → ℕ → List (ℕ × Float)
entries_from v pointers i =
    collected v.moves v.truncation v.numbers v.states (v.state i) (v.numbers i) pointers i (energy v.electric (squares (v.state i))) v.count

unfoldable pub pointers_after : Walk → List ℕ → ℕ → List ℕ
pointers_after v pointers i = pointed v.moves v.truncation v.numbers v.states (v.state i) (v.numbers i) pointers v.count

-- the pointers before row i, all at the first state before row 0
unfoldable pub pointers_at : Walk → ℕ → List ℕ
pointers_at v zero = replicate 512 0
pointers_at v (suc i) = pointers_after v (pointers_at v i) i

-- the entries of row i
unfoldable pub walk_entries : Walk → ℕ → List (ℕ × Float)
walk_entries v i = entries_from v (pointers_at v i) i

-- tables and n states by which rows can be made
pub record Walking (v : Walk) : Type 0 where
  pub few : v.states ≤ 2 ^ 20
  pub moves_few : v.count ≤ 512
  pub each : (i : ℕ) → i < v.states → StateMoves v.moves v.count v.truncation (v.state i)

-- row i stands in the first r entries, sorted, and the pointers are moved
pub record RowFound (v : Walk) (i : ℕ) (pointers : List ℕ) (r : ℕ) (pointers' : List ℕ) (new : List (ℕ × Float)) : Type 0 where
  pub is : Sorted (entries_from v pointers i) (take r new)
  pub pointers_are : pointers' ≡ pointers_after v pointers i

-- row i is written from a place on, its pointers are moved, and the upper bits of its word hold its length
pub record RowDone (v : Walk) (i at : ℕ) (pointers words columns : List ℕ) (values : List Float) (r : ℕ) (pointers' words' columns' : List ℕ) (values' : List Float) : Type 0 where
  pub line : List (ℕ × Float)
  pub is : Sorted (entries_from v pointers i) line
  pub next : r ≡ at + length line
  pub columns_are : columns' ≡ put columns at (map (λ e. e.0) line)
  pub values_are : values' ≡ put values at (map (λ e. e.1) line)
  pub pointers_are : pointers' ≡ pointers_after v pointers i
  pub words_are : words' ≡ set words i (get_or words i 0 + 1048576 * length line)

-- after i rows: the place at which the next begins, the pointers before row i, numbers as before, words from i on as before, the lengths of the
-- rows in the upper bits of the others; columns and values are written, and the starts would be what is told
pub record WalkAt (v : Walk) (words₀ columns₀ : List ℕ) (values₀ : List Float) (i at : ℕ) (pointers words columns : List ℕ) (values : List Float) : Type 0 where
  pub next : at ≡ length (rows_to (walk_entries v) i)
  pub pointers_are : pointers ≡ pointers_at v i
  pub numbers_are : number_in words ≡ v.numbers
  pub unset : (k : ℕ) → i ≤ k → get_or words k 0 ≡ get_or words₀ k 0
  pub lengths : (k : ℕ) → k < i → get_or words k 0 / 1048576 ≡ length (walk_entries v k)
  pub long : length words ≡ length words₀
  pub starts : List ℕ
  pub written : SortedWritten (walk_entries v) i at words₀ columns₀ values₀ starts columns values

-- what rows of a list can be written
pub record Writable (v : Walk) (words : List ℕ) (columns_room values_room : ℕ) : Type 0 where
  pub walking : Walking v
  pub room : v.states < length words
  pub unset : (i : ℕ) → i < v.states → get_or words i 0 < 2 ^ 20
  pub fit : AllRowsFit (walk_entries v) v.states columns_room values_room

-- a walk over the states of a complex by the moves of its triangles, in whatever order
pub record WalkOf (c : Complex) (L : ℕ) (p : KSParams) (w : ℕ → Float) (free : List ℕ) (v : Walk) : Type 0 where
  pub accepted : Accepted c
  pub few : length (states c L) ≤ 2 ^ 20
  pub small : L ≤ 1000
  pub listed : (j : ℕ) → j < length (free_edges c) → get_or free j 0 ≡ get_or (free_edges c) j 0
  pub count : v.count ≡ 2 * length c.triangles
  pub candidates : (2 * L + 1) ^ length (free_edges c) ≤ limit
  pub moves_are : MovesWritten c L p w free v.moves
  pub truncation : v.truncation ≡ L
  pub count_states : v.states ≡ length (states c L)
  pub state_is : (i : ℕ) → i < length (states c L) → v.state i ≡ get_or (states c L) i []
  pub numbers_are : (i : ℕ) → i < length (states c L) → v.numbers i ≡ number L L free (length (free_edges c)) (get_or (states c L) i [])
  pub factor : v.electric ≡ p.electric
