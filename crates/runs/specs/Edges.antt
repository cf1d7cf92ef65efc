-- The edges by what the first two cycles do to them, as the code keeps them.
use Rattle.std.specs.Prelude.{ℕ, ◌<◌, ◌≤◌, List, map, Bool, true, false, cond, ◌≡◌, eqb, ℤ, pos, nat_abs, get_or, length, take}
use Rattle.mathematics.specs.Integers.{equal}
use Rattle.mathematics.specs.Counting.{below, keep}

-- which of two signs is not 0: 0 for none, 1 for the second alone, 2 for the first
unfoldable pub kind : ℤ → ℤ → ℕ
kind first second = cond (equal first (pos 0)) (cond (equal second (pos 0)) 0 1) 2

-- whether an edge is of a kind
unfoldable pub of_kind : List ℤ → List ℤ → ℕ → ℕ → Bool
of_kind first second k e = eqb (kind (get_or first e (pos 0)) (get_or second e (pos 0))) k

-- the edges of one kind among the first m
pub record Edges (first second : List ℤ) (k m : ℕ) (list : List ℕ) (count : ℕ) : Type 0 where
  pub room : count ≤ length list
  pub few : count ≤ m
  pub stands : take count list ≡ keep (of_kind first second k) (below m)

-- a list that begins with numbers below m
pub record Listed (m : ℕ) (list : List ℕ) (count : ℕ) : Type 0 where
  pub room : count ≤ length list
  pub inside : (q : ℕ) → q < count → get_or list q 0 < m

-- whether the values on listed edges are within -L to L
pub record Judged (L : ℕ) (s : List ℤ) (list : List ℕ) (count : ℕ) (r : Bool) : Type 0 where
  pub all : r ≡ true → (q : ℕ) → q < count → nat_abs (get_or s (get_or list q 0) (pos 0)) ≤ L
  pub some : r ≡ false → (q : ℕ) × (q < count) × (L < nat_abs (get_or s (get_or list q 0) (pos 0)))

-- the values on listed edges
unfoldable pub picked : List ℕ → ℕ → List ℤ → List ℤ
picked list count s = map (λ e. get_or s e (pos 0)) (take count list)
