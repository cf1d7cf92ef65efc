-- Walks over numbered edges, and what the path in a tree is: the walk that uses no edge twice.
use Rattle.std.specs.Prelude.{ℕ, List, [], ◌∷◌, map, ◌≡◌, ◌⊎◌, ℤ, pos, negsuc, get_or}
use Rattle.mathematics.specs.Lists.{In, Once}
use Rattle.complex.specs.Complex.{Simplex, start, end}
use Rattle.gauss_law.specs.Shifts.{shifted}

-- an edge and the direction in which it is gone over: 1 from its first end to its second, else -1
abbrev pub Step : Type 0
Step = ℕ × ℤ

abbrev pub edge_of : Step → ℕ
edge_of s = s.0

abbrev pub direction_of : Step → ℤ
direction_of s = s.1

-- direction d takes the edge from u to v
abbrev pub Goes : Simplex → ℤ → ℕ → ℕ → Type 0
Goes s d u v = ((d ≡ pos 1) × (start s ≡ u) × (end s ≡ v)) ⊎ ((d ≡ negsuc 0) × (start s ≡ v) × (end s ≡ u))

-- a walk over the given edges from one vertex to another: each step goes from the current vertex to the next
pub data Walk (es : List Simplex) (given : List ℕ) : ℕ → List Step → ℕ → Type 0 where
  stay : {v : ℕ} → Walk es given v [] v
  onward : {u v w e : ℕ} {d : ℤ} {l : List Step} → In 0 e given → Goes (get_or es e []) d u v → Walk es given v l w → Walk es given u ((e, d) ∷ l) w

-- no edge is gone over twice
abbrev pub EdgesOnce : List Step → Type 0
EdgesOnce w = Once 0 (map edge_of w)

-- the path between two vertices: a walk over tree edges that uses no edge twice, and the only one
pub record IsPath (es : List Simplex) (tree : List ℕ) (a b : ℕ) (path : List Step) : Type 0 where
  pub walk : Walk es tree a path b
  pub once : EdgesOnce path
  pub only : (w : List Step) → Walk es tree a w b → EdgesOnce w → w ≡ path

-- the values on the edges, shifted along a walk: each step adds its direction on its edge
unfoldable pub shifted_along : List Step → List ℤ → List ℤ
shifted_along [] s = s
shifted_along (t ∷ l) s = shifted_along l (shifted s (edge_of t) (direction_of t))
