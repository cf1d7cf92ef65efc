-- A complex as mathematics: vertices 0, 1, .., numbered edges and numbered triangles. A simplex is the list of its vertices.
use Rattle.std.specs.Prelude.{ℕ, zero, suc, ◌+◌, ◌*◌, ◌<◌, List, [], ◌∷◌, ◌++◌, ◌≡◌, ◌⊎◌, ℤ, pos, get_or, length}
use Rattle.complex.specs.declared.SimplicialComplex.{SimplicialComplex}

abbrev pub Simplex : Type 0
Simplex = List ℕ

-- no charge at any vertex
abbrev pub uncharged : ℕ → ℤ
uncharged = λ v. pos 0

-- with the charges that its vertices carry
pub record Complex : Type 0 where
  pub vertices : ℕ
  pub edges : List Simplex
  pub triangles : List Simplex
  pub charges : ℕ → ℤ

-- k entries of a list from a place on, 0 past its end
unfoldable pub entries : List ℕ → ℕ → ℕ → List ℕ
entries l at zero = []
entries l at (suc k) = get_or l at 0 ∷ entries l (at + 1) k

-- the first n simplices of k vertices of a flat list
unfoldable pub simplices : ℕ → List ℕ → ℕ → List Simplex
simplices k l zero = []
simplices k l (suc n) = simplices k l n ++ (entries l (k * n) k ∷ [])

-- the complex that a record stands for
unfoldable pub complex_of : SimplicialComplex → Complex
complex_of c =
    record {
      vertices = c.n_vertices;
      edges = simplices 2 c.edges c.n_edges;
      triangles = simplices 3 c.triangles c.n_triangles;
      charges = uncharged;
    }

-- the two vertices of an edge
abbrev pub start : Simplex → ℕ
start s = get_or s 0 0

abbrev pub end : Simplex → ℕ
end s = get_or s 1 0

-- the edge joins v and w, in one direction or the other
abbrev pub Joins : Simplex → ℕ → ℕ → Type 0
Joins s v w = ((start s ≡ v) × (end s ≡ w)) ⊎ ((start s ≡ w) × (end s ≡ v))

-- a path over the listed edges from vertex v to vertex w
pub data EdgePath (es : List Simplex) (v : ℕ) : ℕ → Type 0 where
  here : EdgePath es v v
  over : {w x : ℕ} (e : ℕ) → EdgePath es v w → e < length es → Joins (get_or es e []) w x → EdgePath es v x
