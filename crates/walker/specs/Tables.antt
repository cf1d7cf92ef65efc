-- The tables of a record, and the states that are walked by them.
use Rattle.std.specs.Prelude.{ℕ, ◌^◌, ◌<◌, ◌≤◌, List, ◌≡◌, ℤ, pos, get_or, length, take}
use Rattle.mathematics.specs.Integers.{sum_below}
use Rattle.complex.specs.Complex.{Complex}
use Rattle.complex.specs.Judge.{Accepted}
use Rattle.gauss_law.specs.Gauss.{Lawful}
use Rattle.gauss_law.specs.Listing.{free_edges}
use Rattle.walker.specs.declared.tables.Walker.{Walker}
use Rattle.cycles.specs.Cycles.{row, CycleTable}
use Rattle.walker.specs.Walker.{lowest_candidate, walked_states}
use Rattle.walker.specs.Steps.{Small, Walkable, Runs}

-- where the walk begins
unfoldable pub begin_of : Walker → List ℤ
begin_of w = take w.n_edges w.first

-- an assignment from which a walk can begin: it obeys the law with the charges of the complex, is 0 on every free edge, and small
pub record Start (c : Complex) (p : List ℤ) : Type 0 where
  pub sized : length p ≡ length c.edges
  pub free : (j : ℕ) → j < length (free_edges c) → get_or p (get_or (free_edges c) j 0) (pos 0) ≡ pos 0
  pub law : Lawful c c.charges p
  pub small : Small (2 ^ 13) p

-- The tables of an accepted complex whose charges add to 0, and the first candidate for a truncation: the one with -L on every free edge.
pub record Walks (c : Complex) (L : ℕ) (w : Walker) : Type 0 where
  pub accepted : Accepted c
  pub neutral : sum_below c.charges c.vertices ≡ pos 0
  pub edges : w.n_edges ≡ length c.edges
  pub count : w.n_free ≡ length (free_edges c)
  pub few : w.n_free ≤ 63
  pub long : length w.free ≡ 63
  pub listed : (j : ℕ) → j < w.n_free → get_or w.free j 0 ≡ get_or (free_edges c) j 0
  pub table : CycleTable c (length (free_edges c)) w.cycles
  pub space : length w.first ≡ 63
  pub start : List ℤ
  pub starts : Start c start
  pub begins : begin_of w ≡ lowest_candidate (row w.n_edges w.cycles) L start w.n_free

-- the states of the first k blocks
unfoldable pub states_of : Walker → ℕ → ℕ → List (List ℤ)
states_of w L k = walked_states w.free (row w.n_edges w.cycles) L w.n_free (begin_of w) k

-- k blocks can be walked
pub record Fit (w : Walker) (L k : ℕ) : Type 0 where
  pub edges : w.n_edges ≤ 63
  pub space : length w.first ≡ 63
  pub sized : length (begin_of w) ≡ w.n_edges
  pub walkable : Walkable w.free w.cycles L w.n_free (begin_of w) k
  pub runs : Runs w.free w.cycles L w.n_free (begin_of w)
