-- The walk from the lowest candidate of a start.
use Prim.Native.Nat.{ℕ, zero, ◌+◌, ◌-◌, ◌*◌, ◌^◌, ◌<◌}
use mathlib.Core.List.{List}
use mathlib.Core.Path.{◌≡◌, sym, ◌∙◌}
use native.Mathlib.Omega.{arith}
use lib.IntN.{ℤ, pos, neg_ℤ, +ℤ_idl}
use lib.ListN.{get_or, length, replicate, length-replicate, get_or-replicate}
use Rattle.mathematics.specs.Integers.{sum_below}
use Rattle.complex.specs.Complex.{Complex, uncharged}
use Rattle.complex.specs.Judge.{Accepted}
use Rattle.gauss_law.specs.Listing.{free_edges, listing}
use Rattle.cycles.specs.Cycles.{Tables}
use Rattle.cycles.proofs.Adding.{zeros_at, gauss_zeros}
use Rattle.walker.specs.Walker.{lowest_candidate, walked, walked_states}
use Rattle.walker.specs.Steps.{Small}
use Rattle.walker.specs.Tables.{Start}
use Rattle.walker.proofs.Counter.{value}
use Rattle.walker.proofs.Candidates.{Chosen}
use Rattle.walker.proofs.Combined.{lowest_chosen}
use Rattle.walker.proofs.Walk.{all_states, walked_small, walked_long}

-- without charges all values can be 0
pub zeros_start : (c : Complex) → c.charges ≡ uncharged → Start c (replicate (length c.edges) (pos 0))
zeros_start c none =
    record {
      sized = length-replicate (length c.edges) (pos 0);
      free = λ j h. zeros_at (length c.edges) (get_or (free_edges c) j 0);
      law = λ v h. rw none (gauss_zeros c.edges (length c.edges) v);
      small = λ e. rw (zeros_at (length c.edges) e) (omega arith);
    }

module _ (c : Complex) (accepted : Accepted c) (neutral : sum_below c.charges c.vertices ≡ pos 0) (free : List ℕ) (cycle : ℕ → List ℤ) (tables : Tables c free cycle)
    (L : ℕ) (p : List ℤ) (start : Start c p) where
  -- where the walk begins, and where it is after k steps
  abbrev pub begin : List ℤ
  begin = lowest_candidate cycle L p (length (free_edges c))

  abbrev pub place : ℕ → List ℤ
  place k = walked free cycle L (length (free_edges c)) begin k

  chosen : Chosen c c.charges (replicate (length (free_edges c)) (pos 0)) p
  chosen = record { sized = start.sized; free = λ j h. start.free j h ∙ sym (zeros_at (length (free_edges c)) j); law = start.law }

  lowest : Chosen c c.charges (replicate (length (free_edges c)) (value L zero)) begin
  lowest = lowest_chosen c c.charges free cycle tables p chosen L

  pub begun_states : listing c c.charges L ≡ walked_states free cycle L (length (free_edges c)) begin ((2 * L + 1) ^ (length (free_edges c) - 1))
  begun_states = all_states c accepted c.charges neutral free cycle tables L begin lowest

  pub begun_long : (k : ℕ) → length (place k) ≡ length c.edges
  begun_long = walked_long c accepted c.charges neutral free cycle tables L begin lowest

  -- it has -L on every free edge
  pub begin_low : (j : ℕ) → j < length (free_edges c) → get_or begin (get_or (free_edges c) j 0) (pos 0) ≡ neg_ℤ (pos L)
  begin_low j h = lowest.free j h ∙ get_or-replicate (length (free_edges c)) j (value L zero) (pos 0) h ∙ +ℤ_idl (neg_ℤ (pos L))

  pub begin_sized : length begin ≡ length c.edges
  begin_sized = lowest.sized

  pub begun_small : (k : ℕ) → Small (2 ^ 13 + length (free_edges c) * L) (place k)
  begun_small = walked_small c accepted c.charges neutral free cycle tables L begin lowest p (2 ^ 13) chosen start.small
