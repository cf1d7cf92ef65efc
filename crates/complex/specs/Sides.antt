-- The edge numbers of a triangle.
use Rattle.std.specs.Prelude.{ℕ, ◌<◌, List, [], ◌∷◌, map, ◌≡◌, ◌⊎◌, get_or, length}
use Rattle.mathematics.specs.Lists.{same, position, choose}
use Rattle.complex.specs.Complex.{Complex}

-- the numbers of the edges (a, b), (a, c), (b, c) of triangle t
unfoldable pub sides : Complex → ℕ → List ℕ
sides c t = map (λ s. position same s c.edges) (choose 2 (get_or c.triangles t []))

-- the number of an edge of triangle t: (a, b), (a, c) and (b, c) by 0, 1 and 2
unfoldable pub side : Complex → ℕ → ℕ → ℕ
side c t k = get_or (sides c t) k 0

-- e is an edge of triangle t
abbrev pub EdgeOf : Complex → ℕ → ℕ → Type 0
EdgeOf c t e = (e ≡ side c t 0) ⊎ ((e ≡ side c t 1) ⊎ (e ≡ side c t 2))

-- distinct triangles have distinct edge sets: a triangle that has all edges of another is that one
abbrev pub EdgeSetsDiffer : Complex → Type 0
EdgeSetsDiffer c = (t u : ℕ) → t < length c.triangles → u < length c.triangles → ((e : ℕ) → EdgeOf c t e → EdgeOf c u e) → t ≡ u

-- triangle t is (x, y, z), its vertices rise, and its edges (x, y), (x, z) and (y, z) have the numbers i, j and k
pub record TriangleSides (c : Complex) (t : ℕ) : Type 0 where
  pub x : ℕ
  pub y : ℕ
  pub z : ℕ
  pub i : ℕ
  pub j : ℕ
  pub k : ℕ
  pub triangle : get_or c.triangles t [] ≡ x ∷ y ∷ z ∷ []
  pub first_rise : x < y
  pub second_rise : y < z
  pub numbers : sides c t ≡ i ∷ j ∷ k ∷ []
  pub i_below : i < length c.edges
  pub j_below : j < length c.edges
  pub k_below : k < length c.edges
  pub xy : get_or c.edges i [] ≡ x ∷ y ∷ []
  pub xz : get_or c.edges j [] ≡ x ∷ z ∷ []
  pub yz : get_or c.edges k [] ≡ y ∷ z ∷ []
