-- The breadth-first search from vertex 0: first come first served, edges at a vertex by rising number. An edge to an unseen vertex
-- is a tree edge, listed as found.
use Rattle.std.specs.Prelude.{ℕ, zero, suc, ◌<◌, ◌≤◌, List, [], ◌∷◌, ◌++◌, Bool, true, not, ◌&&◌, ◌||◌, cond, ◌≡◌, ◌↔◌, get_or, length, eqb, ltb}
use Rattle.mathematics.specs.Lists.{listed, Once}
use Rattle.mathematics.specs.Tests.{every}
use Rattle.complex.specs.Complex.{Simplex, start, end, Joins, EdgePath}

-- how far a search is: the vertices seen, as found, and the tree edges that led to all but the first
pub record Search : Type 0 where
  pub seen : List ℕ
  pub tree : List ℕ

-- v is an end of the edge; the end across from v
unfoldable pub touches : Simplex → ℕ → Bool
touches s v = eqb (start s) v || eqb (end s) v

unfoldable pub across : Simplex → ℕ → ℕ
across s v = cond (eqb (start s) v) (end s) (start s)

-- edge e is looked at from vertex v
unfoldable pub look : List Simplex → ℕ → Search → ℕ → Search
look es v s e =
    cond (touches (get_or es e []) v && not (listed eqb (across (get_or es e []) v) s.seen))
    (record { seen = s.seen ++ (across (get_or es e []) v ∷ []); tree = s.tree ++ (e ∷ []) })
    s

-- the first k edges are looked at from vertex v
unfoldable pub scan : List Simplex → ℕ → Search → ℕ → Search
scan es v s zero = s
scan es v s (suc k) = look es v (scan es v s k) k

-- the vertex at place h of those seen, if there is one, is served: all edges are looked at from it
unfoldable pub serve : List Simplex → Search → ℕ → Search
serve es s h = cond (ltb h (length s.seen)) (scan es (get_or s.seen h 0) s (length es)) s

-- the first k places are served
unfoldable pub served : List Simplex → Search → ℕ → Search
served es s zero = s
served es s (suc k) = serve es (served es s k) k

-- the whole search of n vertices: n places are served, and where every edge has its ends below n no more than n vertices can be found
unfoldable pub whole_search : List Simplex → ℕ → Search
whole_search es n = served es (record { seen = 0 ∷ []; tree = [] }) n

-- every one of the n vertices is seen
unfoldable pub connected : List Simplex → ℕ → Bool
connected es n = every (λ v. listed eqb v (whole_search es n).seen) n

-- for theorems: each edge's two vertices rise and are below n
abbrev pub Ends : ℕ → List Simplex → Type 0
Ends n es = (e : ℕ) → e < length es → (start (get_or es e []) < end (get_or es e [])) × (end (get_or es e []) < n)

-- what a search is worth: a tree of just the vertices that a path leads to from vertex 0; each tree edge joins a vertex found earlier to the
-- next one found
pub record SpansReached (es : List Simplex) (n : ℕ) (s : Search) : Type 0 where
  pub root : get_or s.seen 0 0 ≡ 0
  pub sizes : length s.seen ≡ suc (length s.tree)
  pub below : (i : ℕ) → i < length s.seen → get_or s.seen i 0 < n
  pub apart : Once 0 s.seen
  pub numbered : (i : ℕ) → i < length s.tree → get_or s.tree i 0 < length es
  pub joined : (i : ℕ) → i < length s.tree → (h : ℕ) × (h ≤ i) × Joins (get_or es (get_or s.tree i 0) []) (get_or s.seen h 0) (get_or s.seen (suc i) 0)
  pub reach : (v : ℕ) → (listed eqb v s.seen ≡ true) ↔ EdgePath es 0 v
