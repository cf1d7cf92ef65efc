-- A list that begins with the basis, as the code keeps it.
use Rattle.std.specs.Prelude.{ℕ, ◌<◌, ◌≤◌, ◌≡◌, ℤ, get_or, length}
use mathlib.Core.List.{List, ◌++◌, flatten}
use Rattle.complex.specs.Complex.{Complex}
use Rattle.complex.specs.Judge.{Accepted}
use Rattle.gauss_law.specs.Listing.{free_edges, states}
use Rattle.walker.specs.Steps.{FreeFit}
use Rattle.enumeration.specs.Enumeration.{basis_first}
use Rattle.plaquettes.specs.declared.target.Sizes.{Sizes}

-- a list that begins with the basis, its sizes, and the free edges, which order it
pub record BasisList (c : Complex) (list : List ℤ) (s : Sizes) (free : List ℕ) : Type 0 where
  pub accepted : Accepted c
  pub truncation : s.lambda ≤ 1000
  pub count : s.states ≡ length (states c s.lambda)
  pub few : s.states ≤ 1048576
  pub edges : s.edges ≡ length c.edges
  pub rest : List ℤ
  pub begins : list ≡ flatten (states c s.lambda) ++ rest
  pub free_count : s.free ≡ length (free_edges c)
  pub free_few : s.free ≤ 63
  pub free_fit : FreeFit s.edges s.free free
  pub free_listed : (j : ℕ) → j < s.free → get_or free j 0 ≡ get_or (free_edges c) j 0

-- a list that was made to begin with the basis of a complex within a truncation, and its sizes
pub record BasisListed (c : Complex) (L : ℕ) (old new : List ℤ) (s : Sizes) (free : List ℕ) : Type 0 where
  pub basis : BasisList c new s free
  pub truncated : s.lambda ≡ L
  pub list : new ≡ basis_first c L old
