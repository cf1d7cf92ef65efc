-- The rows of a list of states, as the electric term asks for them.
use Rattle.std.specs.Prelude.{ℕ, ◌*◌, ◌<◌, ◌≤◌, List, ℤ, pos, nat_abs, Float, get_or, length}
use Rattle.hilbert.specs.Search.{row}
use Rattle.matrices.specs.Squares.{squares, energy}

-- a list that begins with n rows of m values that can be squared
pub record SmallRows (list : List ℤ) (n m : ℕ) : Type 0 where
  pub few : n ≤ 1048576
  pub edges_few : m ≤ 63
  pub long : n * m ≤ length list
  pub small : (i : ℕ) → i < n → (e : ℕ) → e < m → nat_abs (get_or (row m list i) e (pos 0)) ≤ 1000

-- what the electric term adds on the diagonal: a factor times the sum of squares of row i
unfoldable pub electric_term : Float → ℕ → List ℤ → ℕ → Float
electric_term factor m list i = energy factor (squares (row m list i))
