-- How many entries the rows have, by the states and without a list of them: in the row of a state the moves that stay within -L to L, and one for
-- a diagonal that is kept.
use Rattle.std.specs.Prelude.{ℕ, zero, suc, ◌+◌, ◌*◌, ◌<◌, ◌≤◌, List, [], ◌∷◌, cond, ℤ, pos, negsuc, nat_abs, eqb, get_or, length}
use Rattle.complex.specs.Complex.{Complex, entries}
use Rattle.matrices.specs.declared.coupling.KSParams.{KSParams}
use Rattle.matrices.specs.Squares.{squares}
use Rattle.rows.specs.Row.{kept}
use Rattle.plaquettes.specs.Joined.{staying}
use Rattle.plaquettes.specs.Pairs.{stays, Movable}
use Rattle.entries.specs.Rows.{diagonal}

unfoldable pub row_count : Complex → ℕ → KSParams → List ℤ → ℕ
row_count c L p s = cond (kept (diagonal p s)) 1 0 + staying c L s (length c.triangles)

-- a number of each state, added
unfoldable pub over_states : (List ℤ → ℕ) → List (List ℤ) → ℕ
over_states f [] = 0
over_states f (s ∷ ss) = f s + over_states f ss

-- ---- as the code keeps it
-- how many of both moves do so
unfoldable pub both_stay : ℕ → List ℤ → List ℕ → ℕ
both_stay L s edges = cond (stays L s edges (pos 1)) 1 0 + cond (stays L s edges (negsuc 0)) 1 0

-- of the first n triangles, by the list of the edges of all
unfoldable pub moves_stay : ℕ → List ℤ → List ℕ → ℕ → ℕ
moves_stay L s all zero = 0
moves_stay L s all (suc t) = moves_stay L s all t + both_stay L s (entries all (3 * t) 3)

-- and one on the diagonal unless every value is 0
unfoldable pub row_entries : ℕ → List ℕ → ℕ → List ℤ → ℕ
row_entries L all n s = cond (eqb (squares s) 0) 0 1 + moves_stay L s all n

-- a state with the edges of n triangles
pub record Countable (L : ℕ) (s : List ℤ) (all : List ℕ) (n : ℕ) : Type 0 where
  pub truncation : L ≤ 1000
  pub triangles_few : n ≤ 256
  pub edges_few : length s ≤ 63
  pub small : (e : ℕ) → e < length s → nat_abs (get_or s e (pos 0)) ≤ 1000
  pub movable : (t : ℕ) → t < n → Movable s (entries all (3 * t) 3)

pub record AllCountable (L : ℕ) (ss : List (List ℤ)) (all : List ℕ) (n : ℕ) : Type 0 where
  pub few : length ss ≤ 1048576
  pub each : (i : ℕ) → i < length ss → Countable L (get_or ss i []) all n
