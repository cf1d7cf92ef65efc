-- When a complex is refused, and what it means that it is accepted.
use Rattle.std.specs.Prelude.{ℕ, ◌<◌, ◌≤◌, List, [], ◌∷◌, Bool, true, not, ◌&&◌, ◌≡◌, length, eqb, leb, ltb}
use Rattle.mathematics.specs.Lists.{same, listed, distinct, choose, In, Once}
use Rattle.mathematics.specs.Tests.{every_entry}
use Rattle.mathematics.specs.Refusals.{first}
use Rattle.complex.specs.Complex.{Simplex, Complex, EdgePath}
use Rattle.complex.specs.Search.{connected}

-- V is 1 to 64, E at most 63, T at most 256
unfoldable pub counts_right : ℕ → ℕ → ℕ → Bool
counts_right v e t = ((leb 1 v && leb v 64) && leb e 63) && leb t 256

-- the vertices of a simplex rise, and the last is below n
unfoldable pub rising : ℕ → Simplex → Bool
rising n [] = true
rising n (a ∷ []) = ltb a n
rising n (a ∷ b ∷ s) = ltb a b && rising n (b ∷ s)

-- each simplex rises below n, and none is listed twice
unfoldable pub simplices_right : ℕ → List Simplex → Bool
simplices_right n l = every_entry (rising n) l && distinct same l

-- every edge of the triangle is listed
unfoldable pub sides_listed : List Simplex → Simplex → Bool
sides_listed es t = every_entry (λ s. listed same s es) (choose 2 t)

unfoldable pub triangles_right : Complex → Bool
triangles_right c = simplices_right c.vertices c.triangles && every_entry (sides_listed c.edges) c.triangles

-- The lines of the table of refusals that speak of a complex: 4, and 7 to 9, and with a truncation 5 between them.
abbrev pub counts_test : Complex → ℕ × Bool
counts_test c = (4, not (counts_right c.vertices (length c.edges) (length c.triangles)))

abbrev pub shape_tests : Complex → List (ℕ × Bool)
shape_tests c =
    (7, not (simplices_right c.vertices c.edges))
    ∷ (8, not (triangles_right c))
    ∷ (9, not (connected c.edges c.vertices))
    ∷ []

abbrev pub complex_tests : Complex → List (ℕ × Bool)
complex_tests c = counts_test c ∷ shape_tests c

-- L is at most 1000
abbrev pub truncation_test : ℕ → ℕ × Bool
truncation_test lambda = (5, ltb 1000 lambda)

abbrev pub truncated_tests : Complex → ℕ → List (ℕ × Bool)
truncated_tests c lambda = counts_test c ∷ truncation_test lambda ∷ shape_tests c

-- a configuration of n values is not as long as the list of edges
abbrev pub length_test : Complex → ℕ → ℕ × Bool
length_test c n = (12, not (eqb n (length c.edges)))

-- The number of the first line that holds of a complex, or 0 where it is accepted. It is meant for complexes whose edges are pairs and whose
-- triangles are triples, as `complex_of` makes them of a record.
unfoldable pub refusal : Complex → ℕ
refusal c = first (complex_tests c)

-- The same in plain words, with no test and no search.
pub record Accepted (c : Complex) : Type 0 where
  pub some_vertex : 1 ≤ c.vertices
  pub few_vertices : c.vertices ≤ 64
  pub few_edges : length c.edges ≤ 63
  pub few_triangles : length c.triangles ≤ 256
  pub edge_is : (s : Simplex) → In [] s c.edges → (a b : ℕ) × (s ≡ a ∷ b ∷ []) × (a < b) × (b < c.vertices)
  pub edge_once : Once [] c.edges
  pub triangle_is : (s : Simplex) → In [] s c.triangles
      → (x y z : ℕ) × (s ≡ x ∷ y ∷ z ∷ []) × (x < y) × (y < z) × (z < c.vertices)
      × In [] (x ∷ y ∷ []) c.edges × In [] (x ∷ z ∷ []) c.edges × In [] (y ∷ z ∷ []) c.edges
  pub triangle_once : Once [] c.triangles
  pub reached : (v : ℕ) → v < c.vertices → EdgePath c.edges 0 v
