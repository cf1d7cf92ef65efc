-- The moves of all triangles in tables, and what they make of a row.
use Rattle.std.specs.Prelude.{ℕ, zero, suc, ◌+◌, ◌*◌, ◌-◌, ◌/◌, ◌%◌, ◌<◌, ◌≤◌, min, Bool, cond, ◌≡◌, ltb, ℤ, pos, negsuc, Float, get_or, length, set, replicate}
use mathlib.Core.List.{List, [], ◌∷◌, ◌++◌, flat_map}
use Rattle.std.specs.Float.{nan}
use Rattle.mathematics.specs.Counting.{below}
use Rattle.complex.specs.Complex.{Complex, entries}
use Rattle.gauss_law.specs.Listing.{free_edges, states, limit}
use Rattle.gauss_law.specs.Shifts.{triangle_move}
use Rattle.matrices.specs.declared.coupling.KSParams.{KSParams}
use Rattle.matrices.specs.Terms.{row_plaquette_term}
use Rattle.rows.specs.Row.{kept}
use Rattle.plaquettes.specs.Pairs.{stays, Movable}
use Rattle.plaquettes.specs.Triangle.{moved_state, sides_within, target}
use Rattle.moves.specs.Numbers.{sought, number}

-- the three edges of each triangle; of each move a key, and the value that it gives an entry
pub record Moves : Type 0 where
  pub sides : List ℕ
  pub keys : List ℕ
  pub terms : List Float

abbrev pub tables : List ℕ → List ℕ → List Float → Moves
tables sides keys terms = record { sides = sides; keys = keys; terms = terms }

-- A move has a number: that of its triangle for the move by -1, and 256 more for the move by 1.
unfoldable pub triangle_of : ℕ → ℕ
triangle_of q = q % 256

unfoldable pub unit_of : ℕ → ℤ
unit_of q = cond (ltb q 256) (negsuc 0) (pos 1)

-- A key has a move's number in its lowest nine bits. Above them stands what the move adds to the number of a state, with 2^20 (`limit`) added, so
-- that it is not negative. So keys rise with what the moves add, and no two moves have one key.
unfoldable pub move_in : ℕ → ℕ
move_in key = key % 512

unfoldable pub change_in : ℕ → ℕ
change_in key = key / 512

-- that of move q, which adds `to` less `from`
abbrev pub key : ℕ → ℕ → ℕ → ℕ
key from to q = 512 * (limit + to - from) + q

-- the number of the move at place k, its triangle and its unit
abbrev pub move_at : Moves → ℕ → ℕ
move_at v k = move_in (get_or v.keys k 0)

abbrev pub triangle_at : Moves → ℕ → ℕ
triangle_at v k = triangle_of (move_at v k)

abbrev pub unit_at : Moves → ℕ → ℤ
unit_at v k = unit_of (move_at v k)

-- the move at place k keeps the three values of a state within -L to L
unfoldable pub goes : Moves → ℕ → List ℤ → ℕ → Bool
goes v L s k = stays L s (entries v.sides (3 * triangle_at v k) 3) (unit_at v k)

-- The n states have numbers that rise. Where the move at place k takes the state with number a: sought from the pointer of the move on.
unfoldable pub arrives : Moves → (ℕ → ℕ) → ℕ → ℕ → List ℕ → ℕ → ℕ
arrives v numbers n a pointers k = sought numbers (a + change_in (get_or v.keys k 0)) (get_or pointers k 0) (n - get_or pointers k 0)

-- the entries of row i: x where it is kept, then for each of the moves that stay the place it leads to and its value
unfoldable pub collected : Moves → ℕ → (ℕ → ℕ) → ℕ → List ℤ → ℕ → List ℕ → ℕ → Float → ℕ → List (ℕ × Float)
collected v L numbers n s a pointers i x zero = cond (kept x) ((i, x) ∷ []) []
collected v L numbers n s a pointers i x (suc k) =
    collected v L numbers n s a pointers i x k ++ cond (goes v L s k) ((arrives v numbers n a pointers k, get_or v.terms k nan) ∷ []) []

-- the pointers after it: behind the place of each move that stays
unfoldable pub pointed : Moves → ℕ → (ℕ → ℕ) → ℕ → List ℤ → ℕ → List ℕ → ℕ → List ℕ
pointed v L numbers n s a pointers zero = pointers
pointed v L numbers n s a pointers (suc k) =
    cond (goes v L s k) (set (pointed v L numbers n s a pointers k) k (min (arrives v numbers n a pointers k + 1) n)) (pointed v L numbers n s a pointers k)

-- ---- the moves of a complex
-- no value on any of m edges
unfoldable pub zeros : ℕ → List ℤ
zeros m = replicate m (pos 0)

-- the number of no shift, and that of the shift of triangle t, each value raised by 1
unfoldable pub rest_number : Complex → ℕ → List ℕ → ℕ
rest_number c L free = number L 1 free (length (free_edges c)) (zeros (length c.edges))

unfoldable pub shift_number : Complex → ℕ → List ℕ → ℕ → ℕ
shift_number c L free t = number L 1 free (length (free_edges c)) (triangle_move c t (pos 1) (zeros (length c.edges)))

-- what move q adds to the number of a state, with 2^20 added: for the move by -1 the number of no shift less that of its triangle's shift, for the
-- move by 1 the reverse
unfoldable pub change_of : Complex → ℕ → List ℕ → ℕ → ℕ
change_of c L free q =
    cond (ltb q 256) (limit + rest_number c L free - shift_number c L free (triangle_of q)) (limit + shift_number c L free (triangle_of q) - rest_number c L free)

unfoldable pub key_of : Complex → ℕ → List ℕ → ℕ → ℕ
key_of c L free q = 512 * change_of c L free q + q

-- the key and the value at place k are those of a move of the complex
pub record MoveAt (c : Complex) (L : ℕ) (p : KSParams) (w : ℕ → Float) (free : List ℕ) (v : Moves) (k : ℕ) : Type 0 where
  pub inside : triangle_at v k < length c.triangles
  pub key_is : get_or v.keys k 0 ≡ key_of c L free (move_at v k)
  pub term_is : get_or v.terms k nan ≡ row_plaquette_term p (w (triangle_at v k))

-- what move q gives row i: its target and its value, and nothing where an edge leaves -L to L
unfoldable pub entry_of : Complex → ℕ → KSParams → (ℕ → Float) → ℕ → ℕ → List (ℕ × Float)
entry_of c L p w i q =
    cond (sides_within c L (triangle_of q) (moved_state c L (triangle_of q) (unit_of q) i)) ((target c L (triangle_of q) (unit_of q) i, row_plaquette_term p (w (triangle_of q))) ∷ []) []

-- what the first m moves in the tables give it
abbrev pub moved_entries : Complex → ℕ → KSParams → (ℕ → Float) → Moves → ℕ → ℕ → List (ℕ × Float)
moved_entries c L p w v i m = flat_map (λ k. entry_of c L p w i (move_at v k)) (below m)

-- no target of state i or of a later one is before the pointer of its move
abbrev pub Behind : Complex → ℕ → Moves → ℕ → List ℕ → ℕ → Type 0
Behind c L v count pointers i =
    (k : ℕ) → k < count → (j : ℕ) → i ≤ j → j < length (states c L) → get_or pointers k 0 ≤ target c L (triangle_at v k) (unit_at v k) j

-- ---- what the code asks
-- a state whose three values each move can change
pub record StateMoves (v : Moves) (count L : ℕ) (s : List ℤ) : Type 0 where
  pub truncation : L ≤ 1000
  pub movable : (k : ℕ) → k < count → Movable s (entries v.sides (3 * triangle_at v k) 3)

-- a pointer for each move, none of them past n places
pub record Pointers (n : ℕ) (pointers : List ℕ) : Type 0 where
  pub long : length pointers ≡ 512
  pub below : (k : ℕ) → get_or pointers k 0 ≤ n
