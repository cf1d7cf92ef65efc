-- No row of the U(1) Hamiltonian holds one column twice.
use Rattle.std.specs.Prelude.{ℕ, ◌<◌, ◌∷◌, true, false, ◌≡◌, ◌≢◌, eqb, pos, negsuc, length}
use Rattle.mathematics.specs.Tests.{some}
use Rattle.mathematics.specs.Lists.{listed, Once}
use Rattle.complex.specs.Complex.{Complex}
use Rattle.complex.specs.Judge.{Accepted}
use Rattle.complex.specs.Sides.{EdgeSetsDiffer}
use Rattle.gauss_law.specs.Listing.{states}
use Rattle.plaquettes.specs.Triangle.{target, hits}
use Rattle.plaquettes.specs.Joined.{joins, arrivals}

pub record ColumnsOnce (c : Complex) (L : ℕ) : Type 0 where
  -- distinct triangles have distinct edge sets
  pub edge_sets : EdgeSetsDiffer c
  -- no triangle's move, by 1 or by -1, takes a state to itself
  pub elsewhere : (t i : ℕ) → t < length c.triangles → i < length (states c L) → (target c L t (pos 1) i ≢ i) × (target c L t (negsuc 0) i ≢ i)
  -- no triangle's shift takes state i to state j and state j to state i: it gives row i one entry in column j, and not two
  pub one_way : (t i j : ℕ) → t < length c.triangles → i < length (states c L) → j < length (states c L) → hits c L t i j ≡ true → hits c L t j i ≡ false
  -- two triangles never join the same two states
  pub one_triangle : (t u i j : ℕ) → t < length c.triangles → u < length c.triangles → i < length (states c L) → j < length (states c L) → joins c L t i j ≡ true → joins c L u i j ≡ true → t ≡ u
  -- the states that the triangles join to state i are the targets of its moves
  pub others : (i j : ℕ) → i < length (states c L) → j < length (states c L) → some (λ t. joins c L t i j) (length c.triangles) ≡ listed eqb j (arrivals c L i (length c.triangles))
  -- so no column of row i is there twice: its own, and the target of each move that stays within -L to L
  pub once : (i : ℕ) → i < length (states c L) → Once 0 (i ∷ arrivals c L i (length c.triangles))

-- on every accepted complex, with any truncation
abbrev pub NoColumnTwice : Type 0
NoColumnTwice = (c : Complex) → Accepted c → (L : ℕ) → ColumnsOnce c L
