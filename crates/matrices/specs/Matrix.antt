-- A matrix at the beginning of a list, row by row.
use Rattle.std.specs.Prelude.{ℕ, ◌+◌, ◌*◌, ◌≤◌, ◌<◌, ◌≡◌, ◌&&◌, cond, eqb, ltb, Float, get_or, length, set}
use mathlib.Core.List.{List, map, flatten}
use Rattle.std.specs.Float.{binary64, nan}
use Rattle.std.specs.Float.Ieee.{add}
use Rattle.mathematics.specs.Counting.{below}

-- all entries f i j of n rows and columns
unfoldable pub matrix_rows : (ℕ → ℕ → Float) → ℕ → List Float
matrix_rows f n = flatten (map (λ i. map (λ j. f i j) (below n)) (below n))

-- ---- as the code keeps it
-- the list begins with them, and keeps what stood after them
pub record Matrix (f : ℕ → ℕ → Float) (n : ℕ) (old new : List Float) : Type 0 where
  pub long : length new ≡ length old
  pub entries : (i j : ℕ) → i < n → j < n → get_or new (i * n + j) nan ≡ f i j
  pub beyond : (k : ℕ) → n * n ≤ k → get_or new k nan ≡ get_or old k nan

-- a list with x added to entry (i, j) of the matrix of n columns at its beginning
abbrev pub with_added : ℕ → ℕ → ℕ → Float → List Float → List Float
with_added n i j x h = set h (i * n + j) (add binary64 (get_or h (i * n + j) nan) x)

-- x i has been added to entry (i, g i) of the first k rows
unfoldable pub passed : (ℕ → ℕ → Float) → (ℕ → ℕ) → (ℕ → Float) → ℕ → ℕ → ℕ → Float
passed f g x k i j = cond (ltb i k && eqb (g i) j) (add binary64 (f i j) (x i)) (f i j)
