-- Fundamental cycles, by which one lawful assignment is made from another.
use Rattle.std.specs.Prelude.{ℕ, ◌+◌, ◌*◌, ◌≤◌, ◌<◌, List, [], ◌∷◌, cond, ◌≡◌, ◌≢◌, eqb, ℤ, pos, negsuc, ◌+ℤ◌, ◌-ℤ◌, ◌*ℤ◌, nat_abs, get_or, length, take, drop, set}
use Rattle.std.proofs.Math.Seq.{paste}
use Rattle.complex.specs.Complex.{Simplex, Complex, start, end}
use Rattle.complex.specs.Search.{Search, across, whole_search}
use Rattle.gauss_law.specs.Gauss.{flow, gauss}
use Rattle.gauss_law.specs.Listing.{free_edges, Free}

-- z added t times to s, entry by entry
unfoldable pub with_cycle : List ℤ → ℤ → List ℤ → List ℤ
with_cycle [] t z = []
with_cycle (x ∷ s) t [] = x ∷ s
with_cycle (x ∷ s) t (y ∷ z) = (x +ℤ t *ℤ y) ∷ with_cycle s t z

-- the value that takes a unit over the edge to its end v
unfoldable pub toward : Simplex → ℕ → ℤ
toward e v = cond (eqb (end e) v) (pos 1) (negsuc 0)

-- The fundamental cycle of the free edge f: no Gauss sum, value 1 on f and 0 on the other free edges, all values -1, 0 or 1.
pub record Cycle (c : Complex) (f : ℕ) (z : List ℤ) : Type 0 where
  pub sized : length z ≡ length c.edges
  pub closed : (v : ℕ) → v < c.vertices → gauss c.edges z v ≡ pos 0
  pub own : get_or z f (pos 0) ≡ pos 1
  pub others : (e : ℕ) → Free c e → e ≢ f → get_or z e (pos 0) ≡ pos 0
  pub signs : (e : ℕ) → nat_abs (get_or z e (pos 0)) ≤ 1

-- The paths in the tree from vertex 0 to the first n + 1 vertices found: a unit taken along one ends at its vertex. An edge that is on two
-- paths has the same sign on both, and only the first n tree edges are on any.
pub record Paths (es : List Simplex) (s : Search) (n : ℕ) (path : ℕ → List ℤ) : Type 0 where
  pub sized : (k : ℕ) → k ≤ n → length (path (get_or s.seen k 0)) ≡ length es
  pub sums : (k : ℕ) → k ≤ n → (v : ℕ) → gauss es (path (get_or s.seen k 0)) v ≡ flow (0 ∷ get_or s.seen k 0 ∷ []) (pos 1) v
  pub signs : (j k : ℕ) → j ≤ n → k ≤ n → (e : ℕ) → nat_abs (get_or (path (get_or s.seen j 0)) e (pos 0) -ℤ get_or (path (get_or s.seen k 0)) e (pos 0)) ≤ 1
  pub unused : (k : ℕ) → k ≤ n → (e : ℕ) → ((i : ℕ) → i < n → get_or s.tree i 0 ≢ e) → get_or (path (get_or s.seen k 0)) e (pos 0) ≡ pos 0

-- the free edges in a table, and the cycle of each; without a free edge the first cycle is any row of signs
pub record Tables (c : Complex) (free : List ℕ) (cycle : ℕ → List ℤ) : Type 0 where
  pub edges : (j : ℕ) → j < length (free_edges c) → get_or free j 0 ≡ get_or (free_edges c) j 0
  pub cycles : (j : ℕ) → j < length (free_edges c) → Cycle c (get_or (free_edges c) j 0) (cycle j)
  pub first_sized : length (cycle 0) ≡ length c.edges
  pub first_signs : (e : ℕ) → nat_abs (get_or (cycle 0) e (pos 0)) ≤ 1

-- the first m entries of row r of a table of rows of 63
abbrev pub row : ℕ → List ℤ → ℕ → List ℤ
row m table r = take m (drop (63 * r) table)

-- a table that has in row v the path to vertex v, for the first n + 1 vertices found
pub record PathTable (c : Complex) (n : ℕ) (table : List ℤ) : Type 0 where
  pub long : length table ≡ 4032
  pub paths : Paths c.edges (whole_search c.edges c.vertices) n (row (length c.edges) table)

-- row w of a table of paths is made from that of its parent, over the edge s of number e
unfoldable pub extended : List ℤ → ℕ → Simplex → ℕ → ℕ → List ℤ
extended table m s e w = set (paste table (63 * w) (row m table (across s w)) m) (63 * w + e) (toward s w)

-- two paths of a table differ by at most 1 in each of their m entries
pub record Subtractable (paths : List ℤ) (a b m : ℕ) : Type 0 where
  pub long : length paths ≡ 4032
  pub first : a < 64
  pub second : b < 64
  pub few : m ≤ 63
  pub signs : (e : ℕ) → e < m → nat_abs (get_or paths (63 * a + e) (pos 0) -ℤ get_or paths (63 * b + e) (pos 0)) ≤ 1

-- two lists of m values that differ by at most 1 in each
pub record Differing (m : ℕ) (s t : List ℤ) : Type 0 where
  pub first : length s ≡ m
  pub second : length t ≡ m
  pub signs : (e : ℕ) → e < m → nat_abs (get_or s e (pos 0) -ℤ get_or t e (pos 0)) ≤ 1

-- row j of a table of cycles is made of the paths to the ends of the edge s of number f
unfoldable pub cycle_row : List ℤ → ℕ → List ℤ → ℕ → Simplex → ℕ → List ℤ
cycle_row table j paths m s f = set (paste table (63 * j) (with_cycle (row m paths (start s)) (negsuc 0) (row m paths (end s))) m) (63 * j + f) (pos 1)

-- a table of signs that has in row j the cycle of the j-th free edge, for the first n of them
pub record CycleTable (c : Complex) (n : ℕ) (table : List ℤ) : Type 0 where
  pub long : length table ≡ 3969
  pub cycles : (j : ℕ) → j < n → Cycle c (get_or (free_edges c) j 0) (row (length c.edges) table j)
  pub signs : (i : ℕ) → nat_abs (get_or table i (pos 0)) ≤ 1
