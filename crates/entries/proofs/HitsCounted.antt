-- Without charges the rows have an entry on the diagonal for each state but that of zeros, and for each hit (i, j) of a triangle one in row i and
-- one in row j.
use Prim.Native.Nat.{ℕ, zero, suc, ◌+◌, ◌-◌, ◌*◌, ◌<◌, ◌≤◌}
use mathlib.Core.List.{List, [], ◌∷◌, map, flat_map}
use mathlib.Core.Bool.{Bool, true, false, not, cond}
use mathlib.Core.Path.{◌≡◌, refl, sym, ap, ap₂, ◌∙◌}
use native.Mathlib.Omega.{arith}
use borrow.Author.Tests.{eqb-true, eq-eqb, ne_eqb}
use lib.Dec.{eqb}
use lib.IntN.{ℤ, pos, negsuc, nat_abs, neg_ℤ}
use lib.ListN.{get_or, length, length-append, length-map, replicate}
use lib.Seq.{ext_get_or}
use Rattle.mathematics.specs.Lists.{listed}
use Rattle.mathematics.specs.Counting.{below, keep}
use Rattle.mathematics.specs.Entries.{Each, none, also}
use Rattle.mathematics.proofs.Tests.{same_tests}
use Rattle.mathematics.proofs.Maps.{keep_map}
use Rattle.mathematics.proofs.Flat.{flat_map_last}
use Rattle.mathematics.proofs.Below.{length_below, below_each, below_ordered, below_member, map_below_at, listed_member, member_listed, member_not_listed, keep_append, keep_agree, keep_count, complement}
use Rattle.mathematics.proofs.Ordered.{Member, front, empty, before, each_to, each_both, each_map, each_member, no_member, member_map, ordered_map, ordered_to, keep_passes, keep_each, keep_ordered, keep_member}
use Rattle.complex.specs.Complex.{Complex, uncharged}
use Rattle.complex.specs.Judge.{Accepted}
use Rattle.gauss_law.specs.Gauss.{State}
use Rattle.gauss_law.specs.Listing.{states}
use Rattle.gauss_law.specs.Shifts.{triangle_move}
use Rattle.gauss_law.proofs.Accepted.{listing_complete}
use Rattle.cycles.proofs.Adding.{zeros_at}
use Rattle.walker.proofs.Begun.{zeros_start}
use Rattle.hilbert.specs.Basis.{At}
use Rattle.hilbert.proofs.Order.{place_at}
use Rattle.matrices.specs.Squares.{squares}
use Rattle.plaquettes.specs.Triangle.{moved_state, sides_within, target, hits}
use Rattle.plaquettes.specs.Joined.{staying}
use Rattle.plaquettes.proofs.TriangleTelling.{state_there}
use Rattle.plaquettes.proofs.Moves.{target_none, target_stays, stays_at, target_rises, target_turned}
use Rattle.plaquettes.proofs.Hits.{hits_target}
use Rattle.entries.specs.Count.{over_states}
use Rattle.entries.specs.Entries.{row_number, entries_number, triangle_hits, hits_number}
use Rattle.entries.proofs.Counted.{over_same}
use Rattle.entries.proofs.Zero.{not_counted}

-- ---- numbers of each state, added
over_add : (f g : List ℤ → ℕ) (ss : List (List ℤ)) → over_states (λ s. f s + g s) ss ≡ over_states f ss + over_states g ss
unfolding over_states
over_add f g [] = refl
over_add f g (s ∷ ss) = omega (arith, over_add f g ss)

over_zero : (ss : List (List ℤ)) → over_states (λ s. 0) ss ≡ 0
unfolding over_states
over_zero [] = refl
over_zero (s ∷ ss) = omega (arith, over_zero ss)

over_kept : (p : List ℤ → Bool) (ss : List (List ℤ)) → over_states (λ s. cond (p s) 1 0) ss ≡ length (keep p ss)
unfolding over_states keep
over_kept p [] = refl
over_kept p (s ∷ ss) = go (p s) (over_kept p ss)
  where
    go : (b : Bool) → over_states (λ s. cond (p s) 1 0) ss ≡ length (keep p ss) → cond b 1 0 + over_states (λ s. cond (p s) 1 0) ss ≡ length (cond b (s ∷ keep p ss) (keep p ss))
    go true e = omega arith
    go false e = omega arith

-- a test of each state counts the places where it is passed
over_places : (p : List ℤ → Bool) (ss : List (List ℤ)) → over_states (λ s. cond (p s) 1 0) ss ≡ length (keep (λ i. p (get_or ss i [])) (below (length ss)))
over_places p ss =
    over_kept p ss
    ∙ ap (λ l. length (keep p l)) by_place
    ∙ ap length (keep_map p (λ i. get_or ss i []) (below (length ss)))
    ∙ length-map (keep (λ i. p (get_or ss i [])) (below (length ss))) (λ i. get_or ss i [])
  where
    by_place : ss ≡ map (λ i. get_or ss i []) (below (length ss))
    by_place =
        ext_get_or [] ss (map (λ i. get_or ss i []) (below (length ss))) (sym (length-map (below (length ss)) (λ i. get_or ss i []) ∙ length_below (length ss)))
        (λ i h. sym (map_below_at (λ i. get_or ss i []) (length ss) i [] h))

-- ---- the state of zeros
no_square : (x : ℤ) → nat_abs x * nat_abs x ≡ 0 → x ≡ pos 0
no_square (pos zero) h = refl
no_square (pos (suc n)) h = absurd (omega arith)
no_square (negsuc n) h = absurd (omega arith)

squares_none : (s : List ℤ) → squares s ≡ 0 → s ≡ replicate (length s) (pos 0)
unfolding squares
squares_none [] h = refl
squares_none (x ∷ s) h = ap₂ (λ y r. y ∷ r) (no_square x (omega arith)) (squares_none s (omega arith))

squares_zeros : (n : ℕ) → squares (replicate n (pos 0)) ≡ 0
unfolding squares
squares_zeros zero = refl
squares_zeros (suc n) = omega (arith, squares_zeros n)

module _ (c : Complex) (accepted : Accepted c) (L : ℕ) where
  abbrev N : ℕ
  N = length (states c L)

  abbrev zeros : List ℤ
  zeros = replicate (length c.edges) (pos 0)

  module _ (neutral : c.charges ≡ uncharged) where
    zeros_state : State c c.charges L zeros
    zeros_state =
        let start = zeros_start c neutral in
        record { sized = start.sized; within = λ e h. rw (zeros_at (length c.edges) e) (omega arith); law = start.law }

    -- it stands at place z, and in every other state some value is not 0
    module _ (z : ℕ) (there : At c L zeros z) where
      zeros_alone : (i : ℕ) → i < N → eqb (squares (get_or (states c L) i [])) 0 ≡ listed eqb i (z ∷ [])
      zeros_alone i h =
          same_tests _ _
          (λ e. member_listed (front (at_zeros (squares_none (get_or (states c L) i []) (eqb-true (squares (get_or (states c L) i [])) 0 e)))))
          (λ e. eq-eqb (squares (get_or (states c L) i [])) 0 (at_place (listed_member i (z ∷ []) e)))
        where
          at_zeros : get_or (states c L) i [] ≡ replicate (length (get_or (states c L) i [])) (pos 0) → i ≡ z
          at_zeros e =
              let same : get_or (states c L) i [] ≡ zeros = e ∙ ap (λ n. replicate n (pos 0)) (state_there c accepted L i h).sized in
              sym (place_at c accepted L zeros i (record { below = h; state = same })) ∙ place_at c accepted L zeros z there

          at_place : Member i (z ∷ []) → squares (get_or (states c L) i []) ≡ 0
          at_place m = each_member {P = λ k. squares (get_or (states c L) k []) ≡ 0} (also (ap squares there.state ∙ squares_zeros (length c.edges)) none) m

      diagonals_from : over_states (λ s. cond (eqb (squares s) 0) 0 1) (states c L) ≡ N - 1
      diagonals_from =
          let all = complement (z ∷ []) N (before none empty) (also there.below none) in
          let same = ap length (keep_agree (λ i. not (eqb (squares (get_or (states c L) i [])) 0)) (λ i. not (listed eqb i (z ∷ []))) N (λ i h. ap not (zeros_alone i h))) in
          let counted = over_same (λ s. cond (eqb (squares s) 0) 0 1) (λ s. cond (not (eqb (squares s) 0)) 1 0) (states c L) (λ i h. sym (not_counted (eqb (squares (get_or (states c L) i [])) 0))) in
          counted ∙ over_places (λ s. not (eqb (squares s) 0)) (states c L) ∙ same ∙ omega (arith, all)

    diagonals : over_states (λ s. cond (eqb (squares s) 0) 0 1) (states c L) ≡ N - 1
    unfolding states
    diagonals = let r = (listing_complete c accepted c.charges L).every zeros zeros_state in diagonals_from r.0 (record { below = r.1; state = r.2 })

  -- ---- the moves of one triangle
  module _ (t : ℕ) (number : t < length c.triangles) where
    -- the move by u keeps a state within -L to L, and the state at place i
    abbrev stays : ℤ → List ℤ → Bool
    stays u s = sides_within c L t (triangle_move c t u s)

    abbrev keeps : ℤ → ℕ → Bool
    keeps u i = sides_within c L t (moved_state c L t u i)

    module _ (u : ℤ) where
      abbrev kept : List ℕ
      kept = keep (keeps u) (below N)

      kept_are : Each (λ i. (i < N) × (keeps u i ≡ true)) kept
      kept_are = each_both (keep_each (keeps u) (below_each N)) (keep_passes (keeps u) (below N))

      -- the targets of the states that it keeps are the states that the move back keeps
      goes_back : (i : ℕ) → i < N → keeps u i ≡ true → keeps (neg_ℤ u) (target c L t u i) ≡ true
      goes_back i h e =
          let j = target c L t u i in
          let k : j < N = (stays_at c accepted L t number u i h e).below in
          target_stays c L t (neg_ℤ u) j (rw ((target_turned c accepted L t number u i j h k).0 refl) h)

      comes_from : (j : ℕ) → j < N → keeps (neg_ℤ u) j ≡ true → Member j (map (target c L t u) kept)
      comes_from j k e =
          let i = target c L t (neg_ℤ u) j in
          let h : i < N = (stays_at c accepted L t number (neg_ℤ u) j k e).below in
          let leads : target c L t u i ≡ j = (target_turned c accepted L t number u i j h k).1 refl in
          rw leads at (member_map (target c L t u) (keep_member (keeps u) (target_stays c L t u i (rw leads k)) (below_member N i h)))

      -- so both keep as many
      as_many_back : length (keep (keeps (neg_ℤ u)) (below N)) ≡ length kept
      as_many_back =
          keep_count (map (target c L t u) kept) N
          (ordered_map (target c L t u)
          (ordered_to (λ i k a b less e. omega (arith, e, target_rises c accepted L t number u i k less b.0 (stays_at c accepted L t number u i a.0 a.1).below)) kept_are
          (keep_ordered (keeps u) (below_ordered N))))
          (each_map (target c L t u) (each_to (λ i a. (stays_at c accepted L t number u i a.0 a.1).below) kept_are))
          (keeps (neg_ℤ u))
          (λ j k. same_tests _ _
          (λ e. member_listed (comes_from j k e))
          (λ e. each_member {P = λ j. keeps (neg_ℤ u) j ≡ true} (each_map (target c L t u) (each_to (λ i a. goes_back i a.0 a.1) kept_are)) (listed_member j (map (target c L t u) kept) e)))
          ∙ length-map kept (target c L t u)

    -- a state hits one state where its shift keeps it, else none
    one_hit : (i : ℕ) → i < N → length (keep (hits c L t i) (below N)) ≡ cond (keeps (pos 1) i) 1 0
    one_hit i h = go (keeps (pos 1) i) refl
      where
        j : ℕ
        j = target c L t (pos 1) i

        go : (b : Bool) → keeps (pos 1) i ≡ b → length (keep (hits c L t i) (below N)) ≡ cond b 1 0
        go true e =
            keep_count (j ∷ []) N (before none empty) (also (stays_at c accepted L t number (pos 1) i h e).below none) (hits c L t i)
            (λ k b. hits_target c L t i k b
            ∙ same_tests _ _
            (λ q. member_listed (front (sym (eqb-true j k q))))
            (λ q. eq-eqb j k (each_member {P = λ k. j ≡ k} (also refl none) (listed_member k (j ∷ []) q))))
        go false e = keep_count [] N empty none (hits c L t i) (λ k b. hits_target c L t i k b ∙ ne_eqb j k (λ q. omega (arith, q, b, target_none c L t (pos 1) i e)) ∙ sym (member_not_listed k [] no_member))

    -- so the first n states have as many hits as of them are kept
    hits_from : (n : ℕ) → n ≤ N → length (flat_map (λ i. keep (hits c L t i) (below N)) (below n)) ≡ length (keep (keeps (pos 1)) (below n))
    unfolding below keep flat_map
    hits_from zero h = refl
    hits_from (suc i) h =
        ap length (flat_map_last (λ i. keep (hits c L t i) (below N)) (below i) i)
        ∙ length-append (flat_map (λ i. keep (hits c L t i) (below N)) (below i)) (keep (hits c L t i) (below N))
        ∙ ap₂ (λ a b. a + b) (hits_from i (omega arith)) (one_hit i h ∙ one (keeps (pos 1) i))
        ∙ sym (ap length (keep_append (keeps (pos 1)) (below i) (i ∷ [])) ∙ length-append (keep (keeps (pos 1)) (below i)) (keep (keeps (pos 1)) (i ∷ [])))
      where
        one : (b : Bool) → cond b 1 0 ≡ length (cond b (i ∷ []) [])
        one true = refl
        one false = refl

    -- in all rows two entries for each hit of the triangle
    both_counted : over_states (λ s. cond (stays (pos 1) s) 1 0 + cond (stays (negsuc 0) s) 1 0) (states c L) ≡ 2 * length (triangle_hits c L t)
    unfolding triangle_hits moved_state
    both_counted =
        let forth = over_places (stays (pos 1)) (states c L) in
        let back = over_places (stays (negsuc 0)) (states c L) ∙ as_many_back (pos 1) in
        over_add (λ s. cond (stays (pos 1) s) 1 0) (λ s. cond (stays (negsuc 0) s) 1 0) (states c L)
        ∙ omega (arith, forth, back, hits_from N (omega arith))

  -- and of the first n triangles
  moves_counted : (n : ℕ) → n ≤ length c.triangles → over_states (λ s. staying c L s n) (states c L) ≡ 2 * length (flat_map (triangle_hits c L) (below n))
  unfolding staying below flat_map
  moves_counted zero h = over_zero (states c L)
  moves_counted (suc t) h =
      over_add (λ s. staying c L s t) (λ s. cond (stays t h (pos 1) s) 1 0 + cond (stays t h (negsuc 0) s) 1 0) (states c L)
      ∙ omega (arith, moves_counted t (omega arith), both_counted t h, ap length (flat_map_last (triangle_hits c L) (below t) t), length-append (flat_map (triangle_hits c L) (below t)) (triangle_hits c L t))

-- without charges there are states - 1 + 2 × hits entries
pub entries_by_hits : (c : Complex) → Accepted c → c.charges ≡ uncharged → (L : ℕ) → entries_number c L ≡ (length (states c L) - 1) + 2 * hits_number c L
unfolding entries_number row_number hits_number
entries_by_hits c accepted neutral L =
    over_add (λ s. cond (eqb (squares s) 0) 0 1) (λ s. staying c L s (length c.triangles)) (states c L)
    ∙ ap₂ (λ a b. a + b) (diagonals c accepted L neutral) (moves_counted c accepted L (length c.triangles) (omega arith))
