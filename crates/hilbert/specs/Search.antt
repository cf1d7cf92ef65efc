-- The search for a configuration in the flat list of the basis, as the code keeps it.
use Rattle.std.specs.Prelude.{ℕ, ◌*◌, ◌^◌, ◌<◌, ◌≤◌, List, true, false, ◌≡◌, ltb, ℤ, length, take, drop}
use Rattle.complex.specs.Complex.{Complex}
use Rattle.walker.specs.declared.tables.Walker.{Walker}
use Rattle.walker.specs.Steps.{FreeFit}
use Rattle.enumeration.specs.Enumeration.{BasisWalks, short, basis_first}
use Rattle.hilbert.specs.Basis.{smaller, in_basis, place}

-- a list that begins with n rows as long as a configuration, and the free edges that order them
pub record Rows (list : List ℤ) (n : ℕ) (config : List ℤ) (free : List ℕ) (n_free : ℕ) : Type 0 where
  pub edges_few : length config ≤ 63
  pub few : n ≤ 2 ^ 20
  pub long : n * length config ≤ length list
  pub free_few : n_free ≤ 63
  pub free_fit : FreeFit (length config) n_free free

-- row i of a flat list of rows of m
abbrev pub row : ℕ → List ℤ → ℕ → List ℤ
row m list i = take m (drop (i * m) list)

-- just the first p of n rows come before the configuration
pub record Ranked (list : List ℤ) (n : ℕ) (config : List ℤ) (free : List ℕ) (n_free : ℕ) (p : ℕ) : Type 0 where
  pub within : p ≤ n
  pub rows : (i : ℕ) → i < n → smaller free (row (length config) list i) config n_free ≡ ltb i p

-- a configuration of the basis that w walks, and the length of a list that is long enough for it
pub record Sought (w : Walker) (L blocks : ℕ) (config : List ℤ) (room : ℕ) : Type 0 where
  pub complex : Complex
  pub basis : BasisWalks complex L w blocks
  pub sized : length config ≡ length complex.edges
  pub listed : in_basis complex L config ≡ true
  pub long : short complex L room ≡ false

-- the list begins with the basis, and r is the configuration's place in it
pub record FoundIn (c : Complex) (L : ℕ) (config old new : List ℤ) (r : ℕ) : Type 0 where
  pub list : new ≡ basis_first c L old
  pub found : (length config ≡ length c.edges) × (in_basis c L config ≡ true) → r ≡ place c L config
