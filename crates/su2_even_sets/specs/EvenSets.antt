-- The two-valued basis (Z2; the definitions of this mode begin with su2): edge sets with an even number of edges at each vertex. A set is a
-- mask: bit e says that edge e is in it.
use Rattle.std.specs.Prelude.{ℕ, ◌%◌, ◌^◌, ◌<◌, List, [], Bool, true, ◌&&◌, ◌≡◌, eqb, ltb, get_or, length}
use Rattle.mathematics.specs.Tests.{every}
use Rattle.mathematics.specs.Counting.{below, keep}
use Rattle.mathematics.specs.Lists.{In}
use Rattle.mathematics.specs.Bits.{bit}
use Rattle.complex.specs.Complex.{Simplex, Complex}
use Rattle.complex.specs.Search.{touches}
use Rattle.gauss_law.specs.Listing.{free_edges}

-- edge e is in the set x
unfoldable pub chosen : ℕ → ℕ → Bool
chosen x e = eqb (bit x e) 1

-- how many edges of the set x meet vertex v
unfoldable pub meeting : List Simplex → ℕ → ℕ → ℕ
meeting es x v = length (keep (λ e. chosen x e && touches (get_or es e []) v) (below (length es)))

-- an even number of them at each vertex
unfoldable pub even : Complex → ℕ → Bool
even c x = every (λ v. eqb (meeting c.edges x v % 2) 0) c.vertices

-- all even edge sets as masks, ascending
unfoldable pub su2_states : Complex → List ℕ
su2_states c = keep (even c) (below (2 ^ length c.edges))

-- the place of a mask: the number of listed masks before it
unfoldable pub mask_place : Complex → ℕ → ℕ
mask_place c x = length (keep (λ y. ltb y x) (su2_states c))

-- the mask at place p is x
pub record MaskAt (c : Complex) (x p : ℕ) : Type 0 where
  pub below : p < length (su2_states c)
  pub mask : get_or (su2_states c) p 0 ≡ x

-- every even set is in the list, nothing else is, it is ascending (so each is there once), and they are 2 to the number of free edges
pub record EvenComplete (c : Complex) (l : List ℕ) : Type 0 where
  pub every : (x : ℕ) → x < 2 ^ length c.edges → even c x ≡ true → In 0 x l
  pub only : (x : ℕ) → In 0 x l → (x < 2 ^ length c.edges) × (even c x ≡ true)
  pub ascending : (i j : ℕ) → i < j → j < length l → get_or l i 0 < get_or l j 0
  pub count : length l ≡ 2 ^ length (free_edges c)
