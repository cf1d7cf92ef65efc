-- A configuration that is sought in the list of the basis: what the code asks, and what it then has.
use Prim.Native.Nat.{ℕ, ◌*◌, ◌≤◌}
use mathlib.Core.List.{List, flatten}
use mathlib.Core.Path.{◌≡◌, sym, ◌∙◌}
use borrow.Author.Tests.{ltb-false}
use lib.IntN.{ℤ}
use lib.ListN.{length, drop}
use Rattle.complex.specs.Complex.{Complex}
use Rattle.walker.specs.declared.tables.Walker.{Walker}
use Rattle.walker.specs.Tables.{states_of}
use Rattle.walker.specs.Blocks.{StatesWritten}
use Rattle.enumeration.specs.Enumeration.{basis_first, BasisWalks}
use Rattle.gauss_law.specs.Listing.{states}
use Rattle.enumeration.proofs.Enumerating.{short_told, basis_written}
use Rattle.hilbert.specs.Basis.{place}
use Rattle.hilbert.specs.Search.{Rows, Ranked, Sought, FoundIn}
use Rattle.hilbert.proofs.Order.{in_basis_at, ranked}

module _ (w : Walker) (L blocks : ℕ) (s : List ℤ) where
  module _ (old : List ℤ) (sought : Sought w L blocks s (length old)) where
    pub room : length (states_of w L blocks) * w.n_edges ≤ length old
    room = ltb-false _ _ (sym (short_told sought.complex L w blocks sought.basis (length old)) ∙ sought.long)

    -- the configuration is as long as a row
    sized : length s ≡ w.n_edges
    sized = sought.sized ∙ sym sought.basis.walks.edges

    pub rows : (new : List ℤ) (n : ℕ) → length new ≡ length old → StatesWritten (states_of w L blocks) old new n → Rows new n s w.free w.n_free
    rows new n same h =
        record {
          edges_few = rw sized sought.basis.fit.edges;
          few = rw (basis_written sought.complex L w blocks sought.basis old new n h).0 sought.basis.few;
          long = rw (sized, h.count, same) room;
          free_few = sought.basis.walks.few;
          free_fit = rw (sized, ← sought.basis.fit.sized) sought.basis.fit.walkable.free_fit;
        }

  pub found_in : (old new : List ℤ) (n r : ℕ) → StatesWritten (states_of w L blocks) old new n → ((p : ℕ) → Ranked new n s w.free w.n_free p → r ≡ p)
      → (c : Complex) → BasisWalks c L w blocks → FoundIn c L s old new r
  unfolding basis_first
  found_in old new n r h k c basis =
      let made = basis_written c L w blocks basis old new n h in
      record {
        list = made.1;
        found = λ q. k (place c L s)
            (rw (made.0, made.1, basis.walks.count)
            (ranked c basis.walks.accepted L (drop (length (flatten (states c L))) old) w.free (λ j m. basis.walks.listed j (rw basis.walks.count m)) s (place c L s)
            (in_basis_at c basis.walks.accepted L s q.0 q.1)));
      }
