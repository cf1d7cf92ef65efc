-- The free edges, and that their values determine all others.
use Prim.Native.Nat.{ℕ, ◌<◌}
use mathlib.Core.List.{List}
use mathlib.Core.Bool.{not}
use mathlib.Core.Path.{◌≡◌, sym, ◌∙◌}
use mathlib.Core.Logic.{◌≢◌}
use native.Mathlib.Omega.{arith}
use native.Mathlib.Decide.{dec_lt}
use lib.Dec.{eqb}
use lib.IntN.{ℤ, pos}
use lib.ListN.{get_or, length, get_or-eq_default}
use borrow.Author.Tests.{not-true}
use Rattle.mathematics.specs.Lists.{listed}
use Rattle.mathematics.specs.Counting.{below}
use Rattle.mathematics.specs.Entries.{Each}
use Rattle.mathematics.proofs.Ordered.{Member, Ordered, each_to, ordered_to, keep_passes, keep_each, keep_ordered, keep_member}
use Rattle.mathematics.proofs.Below.{below_each, below_ordered, below_member, member_listed, not_listed, member_not_listed}
use Rattle.complex.specs.Complex.{Complex}
use Rattle.gauss_law.specs.Gauss.{gauss}
use Rattle.gauss_law.specs.Listing.{tree_edges, free_edges, Free}
use Rattle.gauss_law.proofs.Solving.{Off, unique}
use Rattle.gauss_law.proofs.Tree.{Solvable}

module _ (c : Complex) where
  pub free_below : Each (λ e. e < length c.edges) (free_edges c)
  unfolding free_edges
  free_below = keep_each (λ e. not (listed eqb e (tree_edges c))) (below_each (length c.edges))

  pub free_rising : Ordered (λ d e. d < e) (free_edges c)
  unfolding free_edges
  free_rising = keep_ordered (λ e. not (listed eqb e (tree_edges c))) (below_ordered (length c.edges))

  pub free_once : Ordered (λ d e. d ≢ e) (free_edges c)
  free_once = ordered_to (λ d e a b h. apart d e h) free_below free_rising
    where
      apart : (d e : ℕ) → d < e → d ≢ e
      apart d e h k = absurd (omega arith)

  pub free_not_tree : Each (λ e. Member e (tree_edges c) → ⊥) (free_edges c)
  unfolding free_edges
  free_not_tree =
      each_to (λ e h. not_listed (not-true (listed eqb e (tree_edges c)) h)) (keep_passes (λ e. not (listed eqb e (tree_edges c))) (below (length c.edges)))

  pub not_tree_free : (e : ℕ) → e < length c.edges → (Member e (tree_edges c) → ⊥) → Member e (free_edges c)
  unfolding free_edges
  not_tree_free e h f = keep_member (λ e. not (listed eqb e (tree_edges c))) (rw (member_not_listed e (tree_edges c) f)) (below_member (length c.edges) e h)

-- Two assignments with the same Gauss sum at every vertex that agree on the free edges are equal.
pub determined : (c : Complex) → Solvable c.edges c.vertices (tree_edges c) → (s t : List ℤ) → length s ≡ length c.edges → length t ≡ length c.edges
    → ((e : ℕ) → Free c e → get_or s e (pos 0) ≡ get_or t e (pos 0))
    → ((v : ℕ) → v < c.vertices → gauss c.edges s v ≡ gauss c.edges t v)
    → s ≡ t
determined c tree s t ls lt agree same = unique c.edges s t ls lt tree.solving each (each_to (λ p h. same p.0 h) tree.below)
  where
    each : (e : ℕ) → Off e tree.order → get_or s e (pos 0) ≡ get_or t e (pos 0)
    each e o = go (dec_lt e (length c.edges))
      where
        go : Dec (e < length c.edges) → get_or s e (pos 0) ≡ get_or t e (pos 0)
        go (yes l) = agree e (member_listed (not_tree_free c e l ((tree.off e).0 o)))
        go (no l) = get_or-eq_default s (pos 0) (omega arith) ∙ sym (get_or-eq_default t (pos 0) (omega arith))
