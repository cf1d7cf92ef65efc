-- The walks from all states along a path, as the code keeps them.
use Rattle.std.specs.Prelude.{ℕ, ◌<◌, ◌≤◌, List, [], Bool, ◌&&◌, cond, ◌≡◌, ltb, ℤ, pos, nat_abs, Float, get_or, length, take, drop}
use Rattle.std.specs.Float.{binary64, nan}
use Rattle.std.specs.Float.Ieee.{add, mul}
use Rattle.mathematics.specs.Integers.{equal}
use Rattle.mathematics.specs.Tests.{every}
use Rattle.complex.specs.Complex.{Complex}
use Rattle.gauss_law.specs.Gauss.{within}
use Rattle.gauss_law.specs.Listing.{states}
use Rattle.gauss_law.specs.Shifts.{raised, shifted}
use Rattle.hilbert.specs.Basis.{place}
use Rattle.hilbert.specs.Search.{row}
use Rattle.plaquettes.specs.declared.target.Sizes.{Sizes}
use Rattle.plaquettes.specs.Targets.{BasisList}
use Rattle.wilson.specs.Wilson.{Step, stays, walked, wilson_sum}

-- the steps of a path are over edges below m, and no larger than 1
pub record PathFits (m : ℕ) (edges : List ℕ) (directions : List ℤ) : Type 0 where
  pub as_many : length directions ≡ length edges
  pub edges_below : (k : ℕ) → k < length edges → get_or edges k 0 < m
  pub small : (k : ℕ) → k < length edges → nat_abs (get_or directions k (pos 0)) ≤ 1

-- a list that begins with some basis, and an amplitude for each state
pub record Amplitudes (list : List ℤ) (s : Sizes) (free : List ℕ) (a : List Float) : Type 0 where
  pub complex : Complex
  pub basis : BasisList complex list s free
  pub one_each : length a ≡ s.states

-- two rows have the same values
unfoldable pub same_values : List ℤ → List ℤ → Bool
same_values s t = every (λ e. equal (get_or s e (pos 0)) (get_or t e (pos 0))) (length s)

-- where row j of n is the configuration, the product of the amplitudes i and j is added
abbrev pub with_product : List ℤ → ℕ → List Float → ℕ → ℕ → List ℤ → Float → Float
with_product list n a i j config total =
    cond (ltb j n && same_values (row (length config) list j) config) (add binary64 total (mul binary64 (get_or a i nan) (get_or a j nan))) total

-- one step was taken
pub record Stepped (L : ℕ) (row : List ℤ) (e : ℕ) (d : ℤ) (r : Bool) (row' : List ℤ) : Type 0 where
  pub row_is : row' ≡ shifted row e d
  pub stays : r ≡ within L (raised row e d)

-- the row begins with what the first k steps of the walk from s reach, and none of them left the band
pub record Underway (L m : ℕ) (s : List ℤ) (w : List Step) (k : ℕ) (row : List ℤ) : Type 0 where
  pub long : length row ≡ 63
  pub small : (e : ℕ) → e < m → nat_abs (get_or row e (pos 0)) ≤ L
  pub staying : stays L s w ≡ stays L (take m row) (drop k w)
  pub leading : walked s w ≡ walked (take m row) (drop k w)

-- the first i states are summed up, and the walks from all others reach what has its place at `from` or after it
pub record Summed (c : Complex) (L : ℕ) (a : List Float) (w : List Step) (i from : ℕ) (total : Float) : Type 0 where
  pub sum : total ≡ wilson_sum c L a w i
  pub later : (k : ℕ) → i ≤ k → k < length (states c L) → from ≤ place c L (walked (get_or (states c L) k []) w)
