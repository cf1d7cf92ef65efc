-- What a basis is refused for and what walks it, and what the enumeration tells, by the test that decides it.
use Prim.Native.Nat.{ℕ, ◌+◌, ◌-◌, ◌*◌, ◌^◌, ◌≤◌}
use mathlib.Core.List.{List, [], ◌∷◌, flatten}
use mathlib.Core.Bool.{cond}
use mathlib.Core.Path.{◌≡◌, refl, sym, ◌∙◌, ap}
use native.Mathlib.Omega.{arith}
use lib.Dec.{ltb}
use lib.IntN.{ℤ}
use lib.ListN.{length}
use borrow.Author.Tests.{le-ltb}
use Rattle.mathematics.specs.Tests.{every_entry}
use Rattle.mathematics.specs.Refusals.{first}
use Rattle.mathematics.proofs.Refusals.{first_goes_on, numbered}
use Rattle.complex.specs.Complex.{Complex}
use Rattle.complex.specs.Judge.{truncated_tests}
use Rattle.gauss_law.specs.Listing.{states}
use Rattle.gauss_law.proofs.Accepted.{listing_complete}
use Rattle.walker.specs.declared.tables.Walker.{Walker}
use Rattle.walker.specs.Walker.{width}
use Rattle.walker.specs.Tables.{Walks, states_of, Fit}
use Rattle.mathematics.specs.Writing.{put}
use Rattle.walker.specs.Blocks.{StatesWritten}
use Rattle.enumeration.specs.Enumeration.{limit_test, basis_tests, short, basis_first, BasisKnown, BasisWalks}
use Rattle.mathematics.proofs.Puts.{put_front}
use Rattle.enumeration.proofs.Limits.{power_less, states_within, all_candidates}
use Rattle.walker.proofs.Fitting.{walks_fit, walks_states}

module _ (c : Complex) (L : ℕ) where
  -- ---- what is judged before the basis is listed
  module _ (none : first (truncated_tests c L) ≡ 0) (truncation : L ≤ 1000) (w : Walker) (walks : Walks c L w) where
    -- the candidates decide
    pub by_candidates : first (basis_tests c L) ≡ cond (ltb 1048576 ((2 * L + 1) ^ w.n_free)) 10 0
    unfolding first numbered every_entry
    by_candidates = rw walks.count (first_goes_on (truncated_tests c L) (limit_test c L ∷ []) refl none)

    module _ (within : (2 * L + 1) ^ w.n_free ≤ 1048576) (blocks : ℕ) (number : blocks ≡ (2 * L + 1) ^ (w.n_free - 1)) where
      blocks_fit : Fit w L blocks
      blocks_fit = walks_fit c w L walks blocks truncation (rw number (omega (arith, power_less L w.n_free)))

      states_are : states_of w L blocks ≡ states c L
      unfolding states
      states_are = rw number (walks_states c w L walks)

      few_states : length (states c L) ≤ 1048576
      few_states =
          let most : blocks * width L w.n_free ≡ (2 * L + 1) ^ w.n_free = rw number (all_candidates L w.n_free) in
          let every_entry : length (states_of w L blocks) ≤ 1048576 = omega (arith, states_within w L blocks blocks_fit) in
          rw states_are at every_entry

      pub basis_walks : BasisWalks c L w blocks
      basis_walks = record { truncation = truncation; walks = walks; fit = blocks_fit; listed = states_are; few = few_states }

      pub basis_accepted : 0 ≡ first (basis_tests c L)
      basis_accepted = sym (by_candidates ∙ rw (le-ltb 1048576 ((2 * L + 1) ^ w.n_free) within))

  -- ---- the basis goes to a list
  module _ (w : Walker) (blocks : ℕ) (basis : BasisWalks c L w blocks) where
    pub short_told : (room : ℕ) → short c L room ≡ ltb room (length (states_of w L blocks) * w.n_edges)
    unfolding short
    short_told room = rw (basis.listed, basis.walks.edges)

    pub basis_written : (old new : List ℤ) (r : ℕ) → StatesWritten (states_of w L blocks) old new r → (r ≡ length (states c L)) × (new ≡ basis_first c L old)
    unfolding basis_first
    basis_written old new r h = (
      h.count ∙ ap length basis.listed,
      h.list ∙ ap (λ l. put old 0 (flatten l)) basis.listed ∙ put_front old (flatten (states c L)),
    )

    pub basis_known : BasisKnown c L
    unfolding states
    basis_known = record { complete = listing_complete c basis.walks.accepted c.charges L; few = basis.few }
