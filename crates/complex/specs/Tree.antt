-- A search as the code keeps it.
use Rattle.std.specs.Prelude.{ℕ, ◌+◌, ◌-◌, ◌*◌, ◌%◌, ◌<◌, ◌≤◌, List, true, cond, ◌≡◌, get_or, length, take, eqb, ltb}
use Rattle.mathematics.specs.Lists.{listed, distinct}
use Rattle.mathematics.specs.Tests.{every_entry}
use Rattle.complex.specs.Complex.{simplices}
use Rattle.complex.specs.Search.{Search, Ends}
use Rattle.complex.specs.declared.search.SpanningTree.{SpanningTree}

-- the search that a record stands for
unfoldable pub search_of : SpanningTree → Search
search_of t = record { seen = take (t.found + 1) t.queue; tree = take t.found t.tree_edges }

-- the arrays are as declared, the vertices seen are different and below n, and each vertex is flagged just where it was seen
pub record Fits (n : ℕ) (t : SpanningTree) : Type 0 where
  pub queue_long : length t.queue ≡ 64
  pub tree_long : length t.tree_edges ≡ 63
  pub visited_long : length t.visited ≡ 64
  pub room : t.found ≤ 63
  pub below : every_entry (λ v. ltb v n) (search_of t).seen ≡ true
  pub different : distinct eqb (search_of t).seen ≡ true
  pub flags : (v : ℕ) → v < 64 → get_or t.visited v 0 ≡ cond (listed eqb v (search_of t).seen) 1 0

-- a flat list of m edges between n vertices that can be searched
pub record Searchable (edges : List ℕ) (n m : ℕ) : Type 0 where
  pub some_vertex : 1 ≤ n
  pub vertices_fit : n ≤ 64
  pub edges_fit : m ≤ 63
  pub ends : Ends n (simplices 2 edges m)

-- the record fits and stands for the search
pub record Searched (n : ℕ) (t : SpanningTree) (s : Search) : Type 0 where
  pub fits : Fits n t
  pub stands : search_of t ≡ s

-- Half-edge d is the end of edge d / 2 that stands at place d of the flat list. The half-edge at the other end of that edge.
abbrev pub opposite : ℕ → ℕ
opposite d = d + 1 - 2 * (d % 2)

-- d is the first half-edge at v from k on, and their number where there is none
pub record NextAt (edges : List ℕ) (count v k d : ℕ) : Type 0 where
  pub from : k ≤ d
  pub within : d ≤ count
  pub there : d < count → get_or edges d 0 ≡ v
  pub passed : (i : ℕ) → k ≤ i → i < d → get_or edges i 0 ≡ v → ⊥

-- the half-edges from k on are linked: the first at each vertex, and after each the next at its vertex
pub record Linked (edges : List ℕ) (count : ℕ) (heads next : List ℕ) (k : ℕ) : Type 0 where
  pub heads_long : length heads ≡ 64
  pub next_long : length next ≡ 126
  pub first : (v : ℕ) → v < 64 → NextAt edges count v k (get_or heads v 0)
  pub after : (d : ℕ) → k ≤ d → d < count → NextAt edges count (get_or edges d 0) (d + 1) (get_or next d 0)
