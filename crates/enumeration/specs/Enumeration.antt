-- What the enumeration tells, and what its list then holds.
use Rattle.std.specs.Prelude.{ℕ, ◌+◌, ◌*◌, ◌^◌, ◌≤◌, ◌<◌, Bool, ◌≡◌, ltb, ℤ, pos, length}
use mathlib.Core.List.{List, [], ◌∷◌, ◌++◌, flatten}
use Rattle.mathematics.specs.Writing.{front}
use Rattle.mathematics.specs.Refusals.{Outcome, value}
use Rattle.mathematics.specs.Calls.{Call, NoneLent, none_lent}
use Rattle.complex.specs.Complex.{Complex}
use Rattle.complex.specs.Judge.{Accepted, truncated_tests}
use Rattle.gauss_law.specs.Listing.{free_edges, Complete, states, limit}
use Rattle.walker.specs.declared.tables.Walker.{Walker}
use Rattle.walker.specs.Tables.{Walks, states_of, Fit}

-- the candidates are over the limit
abbrev pub limit_test : Complex → ℕ → ℕ × Bool
limit_test c L = (10, ltb limit ((2 * L + 1) ^ length (free_edges c)))

-- what is judged before a basis is listed: 4, 5, and 7 to 10
abbrev pub basis_tests : Complex → ℕ → List (ℕ × Bool)
basis_tests c L = truncated_tests c L ++ (limit_test c L ∷ [])

-- a list has too few entries for the basis
unfoldable pub short : Complex → ℕ → ℕ → Bool
short c L room = ltb room (length (states c L) * length c.edges)

-- what a list holds that begins with the basis
unfoldable pub basis_first : Complex → ℕ → List ℤ → List ℤ
basis_first c L old = front (flatten (states c L)) old

-- 4, 5, 7 to 10, then 15 for a list that has too few entries
abbrev pub enumerated_tests : Complex → ℕ → ℕ → List (ℕ × Bool)
enumerated_tests c L room =
    basis_tests c L ++ ((15, short c L room) ∷ [])

-- what is known of the basis where it is listed: it is complete, and no longer than the limit
pub record BasisKnown (c : Complex) (L : ℕ) : Type 0 where
  pub complete : Complete c c.charges L (states c L)
  pub few : length (states c L) ≤ limit

-- enumerate_gauge_invariant: the number of states is told, and the list begins with them, state after state.
unfoldable pub enumerated_call : Complex → ℕ → List ℤ → Call ℕ (List ℤ)
enumerated_call c L old =
    record {
      tests = enumerated_tests c L (length old);
      value = length (states c L);
      before = old;
      after = basis_first c L old;
      known = BasisKnown c L;
    }

-- count_states: the number of states is told, without a list.
unfoldable pub counted_call : Complex → ℕ → Call ℕ NoneLent
counted_call c L =
    record {
      tests = basis_tests c L;
      value = length (states c L);
      before = none_lent;
      after = none_lent;
      known = BasisKnown c L;
    }

-- ---- demand 3, of one run
-- where a call on the basis is to answer: an accepted complex, a truncation of at most 1000, and candidates within the limit
pub record Answerable (c : Complex) (L : ℕ) : Type 0 where
  pub accepted : Accepted c
  pub truncation : L ≤ 1000
  pub candidates : (2 * L + 1) ^ length (free_edges c) ≤ limit

-- A run of enumerate_gauge_invariant there: no vertex carries a charge, so a state's Gauss sum is zero at each vertex; the list of states is complete. With a list that is long enough for them their number is told, and
-- the list begins with them, state after state, and keeps what stood after them.
pub record ListingDemand (c : Complex) (L : ℕ) (old new : List ℤ) (a : Outcome ℕ) : Type 0 where
  pub zero : (v : ℕ) → c.charges v ≡ pos 0
  pub complete : Answerable c L → Complete c c.charges L (states c L)
  pub answer : Answerable c L → length (states c L) * length c.edges ≤ length old → a ≡ value (length (states c L))
  pub list : Answerable c L → length (states c L) * length c.edges ≤ length old → new ≡ front (flatten (states c L)) old

-- ---- as the code keeps it
-- r equals the number up to the limit, and is above the limit where the number is
pub record Limited (number r : ℕ) : Type 0 where
  pub exact : number ≤ 1048576 → r ≡ number
  pub above : 1048576 < number → 1048576 < r
  pub bound : r ≤ limit * 2001

-- tables and a number of blocks by which the basis of a complex is walked
pub record BasisWalks (c : Complex) (L : ℕ) (w : Walker) (blocks : ℕ) : Type 0 where
  pub truncation : L ≤ 1000
  pub walks : Walks c L w
  pub fit : Fit w L blocks
  pub listed : states_of w L blocks ≡ states c L
  pub few : length (states c L) ≤ limit
