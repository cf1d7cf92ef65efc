-- What holds of an accepted complex: its list of states is complete, and its free values may be chosen.
use Prim.Native.Nat.{ℕ, ◌+◌, ◌<◌}
use mathlib.Core.List.{List, []}
use mathlib.Core.Path.{◌≡◌, refl, sym, ◌∙◌}
use mathlib.Core.Logic.{◌⊎◌, inl, inr}
use native.Mathlib.Omega.{arith}
use native.Mathlib.Decide.{ℕ_discrete}
use lib.IntN.{ℤ, pos, ◌*ℤ◌}
use lib.ListN.{get_or, length}
use Rattle.mathematics.specs.Integers.{sum_below}
use Rattle.mathematics.proofs.Ordered.{at_each}
use Rattle.mathematics.proofs.Below.{listed_member}
use Rattle.mathematics.proofs.Sums.{sum_same, sum_zero}
use Rattle.complex.specs.Complex.{Complex, uncharged}
use Rattle.complex.specs.Search.{whole_search, Ends, SpansReached}
use Rattle.complex.specs.Judge.{Accepted}
use Rattle.complex.proofs.Searches.{search_spans, connected_reached, connected_tree}
use Rattle.gauss_law.specs.Listing.{tree_edges, free_edges, states, listing, Before, Complete}
use Rattle.gauss_law.proofs.Solving.{Solved}
use Rattle.gauss_law.proofs.Tree.{Solvable, spans_solvable, spans_solved}
use Rattle.gauss_law.proofs.Listing.{edges_split, solvable_complete, complete_once}
use Rattle.gauss_law.proofs.Roots.{one_times}
use Rattle.gauss_law.proofs.Extension.{Root, Rooted, Extends, extends_once, extension}

module _ (c : Complex) (accepted : Accepted c) where
  pub accepted_ends : Ends c.vertices c.edges
  accepted_ends e h =
      let r = accepted.edge_is (get_or c.edges e []) (e, h, refl) in
      rw r.2 (r.3, r.4)

  pub accepted_spans : SpansReached c.edges c.vertices (whole_search c.edges c.vertices)
  accepted_spans = search_spans c.edges c.vertices accepted.some_vertex accepted_ends

  pub accepted_tree : Solvable c.edges c.vertices (tree_edges c)
  unfolding tree_edges
  accepted_tree = spans_solvable c.edges c.vertices (whole_search c.edges c.vertices) accepted_spans

  -- F is E - V + 1
  pub free_count : length (free_edges c) + c.vertices ≡ length c.edges + 1
  unfolding tree_edges
  free_count =
      omega (
        arith,
        edges_split c accepted_tree,
        connected_tree c.edges c.vertices accepted.some_vertex accepted_ends
            ((connected_reached c.edges c.vertices accepted.some_vertex accepted_ends).1 accepted.reached),
      )

  -- ---- the list of states
  pub listing_complete : (q : ℕ → ℤ) (L : ℕ) → Complete c q L (listing c q L)
  listing_complete q L = solvable_complete c q L accepted_tree

  pub states_ordered : (L i j : ℕ) → i < j → j < length (states c L) → Before c (get_or (states c L) i []) (get_or (states c L) j [])
  unfolding states
  states_ordered L = (listing_complete c.charges L).ordered

  pub complete_listing : (q : ℕ → ℤ) (L : ℕ) (ss : List (List ℤ)) → Complete c q L ss → ss ≡ listing c q L
  complete_listing q L ss h = complete_once c q L ss (listing c q L) h (listing_complete q L)

  -- ---- the free values, where the charges add to zero
  module _ (q : ℕ → ℤ) (charges : sum_below q c.vertices ≡ pos 0) where
    pub accepted_rooted : Rooted c q accepted_tree.order
    unfolding accepted_tree tree_edges
    accepted_rooted v h = go (ℕ_discrete v 0)
      where
        solved : (u : ℕ) → u < c.vertices → (u ≡ 0 → ⊥) → Solved u (spans_solvable c.edges c.vertices (whole_search c.edges c.vertices) accepted_spans).order
        solved u k n =
            spans_solved c.edges c.vertices (whole_search c.edges c.vertices) accepted_spans u
            (listed_member u (whole_search c.edges c.vertices).seen ((accepted_spans.reach u).1 (accepted.reached u k))) n

        go : Dec (v ≡ 0) → Solved v accepted_tree.order ⊎ Root q c.vertices c.edges accepted_tree.order v
        go (no n) = inl (solved v h n)
        go (yes e) =
            inr
            (record {
              weight = λ u. pos 1;
              level = at_each [] c.edges (λ i k. let r = accepted_ends i k in record { start_below = omega (arith, r.0, r.1); end_below = r.1; level = refl });
              root = refl;
              charges = sum_same (λ u. pos 1 *ℤ q u) q c.vertices (λ u k. one_times (q u)) ∙ charges;
              others = λ u k n. inr (solved u k (λ z. n (z ∙ sym e)));
            })

    -- each choice of free values extends to just one lawful assignment
    pub accepted_extension : (x : ℕ → ℤ) → (s : List ℤ) × Extends c q x s × ((t : List ℤ) → Extends c q x t → t ≡ s)
    accepted_extension x =
        let h = extension c q x accepted_tree accepted_rooted in
        (_, h, λ t k. extends_once c q x accepted_tree t _ k h)

  pub uncharged_extension : (x : ℕ → ℤ) → (s : List ℤ) × Extends c uncharged x s × ((t : List ℤ) → Extends c uncharged x t → t ≡ s)
  uncharged_extension = accepted_extension uncharged (sum_zero c.vertices)
