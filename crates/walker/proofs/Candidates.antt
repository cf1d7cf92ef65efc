-- Candidates: the lawful assignments with given values on the free edges. The states are the candidates within -L to L, in counting order.
use Prim.Native.Nat.{ℕ, zero, suc, ◌+◌, ◌*◌, ◌≤◌, ◌<◌}
use mathlib.Core.List.{List, map}
use mathlib.Core.Bool.{Bool, true, false, cond}
use mathlib.Core.Path.{◌≡◌, sym, ◌∙◌, ap}
use native.Mathlib.Omega.{arith}
use native.Mathlib.Decide.{ℕ_discrete}
use borrow.Author.Tests.{leb-true, le-leb}
use lib.Dec.{eqb, leb}
use lib.IntN.{ℤ, pos, ◌+ℤ◌, ◌*ℤ◌, nat_abs, neg_ℤ, *ℤ-zero, +ℤ_idr}
use lib.Signed.{lt_z, ◌<ℤ◌}
use lib.ListN.{get_or, length, set, length-set, length-map}
use lib.Seq.{get_or-set_same, get_or-set_other}
use Rattle.mathematics.specs.Integers.{sum_below}
use Rattle.mathematics.specs.Lists.{position}
use Rattle.mathematics.specs.Tests.{every_entry}
use Rattle.mathematics.specs.Counting.{keep, counted}
use Rattle.mathematics.proofs.Tests.{all_at, at_all}
use Rattle.mathematics.specs.Entries.{Each}
use Rattle.mathematics.proofs.Ordered.{Member, Ordered, each_to, each_all, each_both, each_map, place_member, member_map, ordered_map, ordered_to, keep_passes, keep_each, keep_member, keep_ordered}
use Rattle.mathematics.proofs.Below.{map_at, member_listed, same_place, place_at}
use Rattle.mathematics.proofs.Digits.{Smaller, counted_each, counted_member, counted_ordered}
use Rattle.complex.specs.Complex.{Complex}
use Rattle.complex.specs.Judge.{Accepted}
use Rattle.gauss_law.specs.Gauss.{Lawful, State}
use Rattle.gauss_law.specs.Listing.{tree_edges, free_edges, values, listing, Before}
use Rattle.cycles.specs.Cycles.{with_cycle, Cycle, Tables}
use Rattle.walker.specs.Walker.{counted_up, stepped}
use Rattle.gauss_law.proofs.Tree.{Solvable}
use Rattle.gauss_law.proofs.Free.{free_below, free_once, determined}
use Rattle.gauss_law.proofs.Listing.{values_within, values_ordered, values_member, free_place, earlier, complete_from}
use Rattle.gauss_law.proofs.Extension.{Extends}
use Rattle.gauss_law.proofs.Accepted.{accepted_tree, accepted_extension, complete_listing}
use Rattle.mathematics.proofs.Integers.{times_one}
use Rattle.cycles.proofs.Adding.{added_length, added_at, gauss_closed}
use Rattle.walker.proofs.Counter.{moved, up_from}

-- s is lawful, and xs are its values on the free edges
pub record Chosen (c : Complex) (q : ℕ → ℤ) (xs s : List ℤ) : Type 0 where
  pub sized : length s ≡ length c.edges
  pub free : (j : ℕ) → j < length (free_edges c) → get_or s (get_or (free_edges c) j 0) (pos 0) ≡ get_or xs j (pos 0)
  pub law : Lawful c q s

module _ (c : Complex) (q : ℕ → ℤ) where
  pub chosen_once : Solvable c.edges c.vertices (tree_edges c) → (xs s t : List ℤ) → Chosen c q xs s → Chosen c q xs t → s ≡ t
  chosen_once tree xs s t a b =
      determined c tree s t a.sized b.sized (λ e f. agree e (free_place c tree e f)) (λ v h. a.law v h ∙ sym (b.law v h))
    where
      agree : (e : ℕ) → (j : ℕ) × (j < length (free_edges c)) × (get_or (free_edges c) j 0 ≡ e) → get_or s e (pos 0) ≡ get_or t e (pos 0)
      agree e (j, h, k) = rw (← k) (a.free j h ∙ sym (b.free j h))

  pub extends_chosen : (xs s : List ℤ) → Extends c q (λ e. get_or xs (position eqb e (free_edges c)) (pos 0)) s → Chosen c q xs s
  extends_chosen xs s h =
      record {
        sized = h.sized;
        free = λ j k. h.free (get_or (free_edges c) j 0) (member_listed (place_member 0 (free_edges c) j k)) ∙ ap (λ i. get_or xs i (pos 0)) (place_at 0 (free_once c) j k);
        law = h.law;
      }

  -- ---- a cycle moves one free value
  module _ (j : ℕ) (inside : j < length (free_edges c)) (z : List ℤ) (cycle : Cycle c (get_or (free_edges c) j 0) z) where
    cycle_free : (i : ℕ) → i < length (free_edges c) → (x t : ℤ) (xs : List ℤ) → length xs ≡ length (free_edges c) → x ≡ get_or xs i (pos 0)
        → x +ℤ t *ℤ get_or z (get_or (free_edges c) i 0) (pos 0) ≡ get_or (moved xs t j) i (pos 0)
    unfolding moved
    cycle_free i h x t xs l k = go (ℕ_discrete i j)
      where
        go : Dec (i ≡ j) → x +ℤ t *ℤ get_or z (get_or (free_edges c) i 0) (pos 0) ≡ get_or (set xs j (get_or xs j (pos 0) +ℤ t)) i (pos 0)
        go (yes e) = rw (k, e, cycle.own, times_one t) (sym (get_or-set_same xs j _ (pos 0) (omega arith)))
        go (no n) =
            let off : get_or z (get_or (free_edges c) i 0) (pos 0) ≡ pos 0 =
            cycle.others (get_or (free_edges c) i 0) (member_listed (place_member 0 (free_edges c) i h)) (λ e. n (same_place 0 (free_once c) i j h inside e)) in
            rw (off, *ℤ-zero t) (+ℤ_idr x ∙ k ∙ sym (get_or-set_other xs j i _ (pos 0) n))

    pub added_chosen : (t : ℤ) (xs s : List ℤ) → length xs ≡ length (free_edges c) → Chosen c q xs s → Chosen c q (moved xs t j) (with_cycle s t z)
    added_chosen t xs s l h =
        let long : length z ≡ length s = cycle.sized ∙ sym h.sized in
        record {
          sized = added_length s t z ∙ h.sized;
          free = λ i k. added_at s t z (get_or (free_edges c) i 0) long ∙ cycle_free i k (get_or s (get_or (free_edges c) i 0) (pos 0)) t xs l (h.free i k);
          law = λ v k. gauss_closed c.edges s t z v long (cycle.closed v k) ∙ h.law v k;
        }

  -- ---- a step of the assignment is a step of its free values
  pub moved_length : (xs : List ℤ) (t : ℤ) (j : ℕ) → length (moved xs t j) ≡ length xs
  unfolding moved
  moved_length xs t j = length-set xs j _

  module _ (free : List ℕ) (cycle : ℕ → List ℤ) (tables : Tables c free cycle) (L : ℕ) where
    pub stepped_chosen : (n j : ℕ) (xs s : List ℤ) → j + n ≤ length (free_edges c) → length xs ≡ length (free_edges c) → Chosen c q xs s
        → Chosen c q (up_from L n j xs) (stepped free cycle L n j s)
    unfolding up_from stepped counted_up
    stepped_chosen zero j xs s h l k = k
    stepped_chosen (suc n) j xs s h l k =
        let inside : j < length (free_edges c) = omega arith in
        let back = neg_ℤ (pos (2 * L)) in
        rw (tables.edges j inside, k.free j inside)
        (go (lt_z (get_or xs j (pos 0)) (pos L)) (added_chosen j inside (cycle j) (tables.cycles j inside) (pos 1) xs s l k)
        (stepped_chosen n (suc j) (moved xs back j) (with_cycle s back (cycle j)) (omega arith) (moved_length xs back j ∙ l) (added_chosen j inside (cycle j) (tables.cycles j inside) back xs s l k)))
      where
        go : (b : Bool) {xs ys s t : List ℤ} → Chosen c q xs s → Chosen c q ys t → Chosen c q (cond b xs ys) (cond b s t)
        go true x y = x
        go false x y = y

-- ---- the states are the candidates within -L to L
unfoldable pub within : ℕ → List ℤ → Bool
within L s = every_entry (λ x. leb (nat_abs x) L) s

module _ (L : ℕ) (s : List ℤ) where
  pub within_at : within L s ≡ true → (e : ℕ) → e < length s → nat_abs (get_or s e (pos 0)) ≤ L
  unfolding within
  within_at h e k = leb-true _ L (all_at (λ x. leb (nat_abs x) L) (pos 0) s h e k)

  pub at_within : ((e : ℕ) → e < length s → nat_abs (get_or s e (pos 0)) ≤ L) → within L s ≡ true
  unfolding within
  at_within h = at_all (λ x. leb (nat_abs x) L) (pos 0) s (λ e k. le-leb _ L (h e k))

module _ (c : Complex) (accepted : Accepted c) (q : ℕ → ℤ) (charges : sum_below q c.vertices ≡ pos 0) where
  -- the lawful assignment with the values xs on the free edges
  pub candidate : List ℤ → List ℤ
  candidate xs = (accepted_extension c accepted q charges (λ e. get_or xs (position eqb e (free_edges c)) (pos 0))).0

  pub candidate_chosen : (xs : List ℤ) → Chosen c q xs (candidate xs)
  unfolding candidate
  candidate_chosen xs = extends_chosen c q xs (candidate xs) (accepted_extension c accepted q charges (λ e. get_or xs (position eqb e (free_edges c)) (pos 0))).1

  pub chosen_candidate : (xs s : List ℤ) → Chosen c q xs s → candidate xs ≡ s
  chosen_candidate xs s h = chosen_once c q (accepted_tree c accepted) xs (candidate xs) s (candidate_chosen xs) h

  module _ (L : ℕ) where
    -- all choices of values from -L to L, counted
    abbrev choices : List (List ℤ)
    choices = counted (values L) (length (free_edges c))

    candidates_lawful : Each (λ s. (xs : List ℤ) × Chosen c q xs s) (map candidate choices)
    candidates_lawful = each_map candidate (each_all (λ xs. (xs, candidate_chosen xs)) choices)

    candidates_states : Each (State c q L) (keep (within L) (map candidate choices))
    candidates_states = each_to (λ s r. state s r.0.0 r.0.1 r.1) (each_both (keep_each (within L) candidates_lawful) (keep_passes (within L) (map candidate choices)))
      where
        state : (s xs : List ℤ) → Chosen c q xs s → within L s ≡ true → State c q L s
        state s xs h k =
            record {
              sized = h.sized;
              within = λ e m. within_at L s k e (omega (arith, h.sized));
              law = h.law;
            }

    candidates_member : (s : List ℤ) → State c q L s → Member s (keep (within L) (map candidate choices))
    candidates_member s h =
        keep_member (within L) (at_within L s (λ e k. h.within e (omega (arith, h.sized))))
        (rw (chosen_candidate chosen s own) at (member_map candidate (rw long at (counted_member (values L) {xs = chosen} possible))))
      where
        chosen : List ℤ
        chosen = map (λ e. get_or s e (pos 0)) (free_edges c)

        long : length chosen ≡ length (free_edges c)
        long = length-map (free_edges c) (λ e. get_or s e (pos 0))

        own : Chosen c q chosen s
        own = record { sized = h.sized; free = λ j k. sym (map_at (λ e. get_or s e (pos 0)) (free_edges c) j 0 (pos 0) k); law = h.law }

        possible : Each (λ x. Member x (values L)) chosen
        possible = each_map (λ e. get_or s e (pos 0)) (each_to (λ e k. values_member L (get_or s e (pos 0)) (h.within e k)) (free_below c))

    candidates_ordered : Ordered (Before c) (keep (within L) (map candidate choices))
    candidates_ordered =
        keep_ordered (within L)
        (ordered_map {R = Before c} candidate
        (ordered_to (λ xs ys a b r. before xs ys a.0 r) (counted_each (values L) (λ x. nat_abs x ≤ L) (values_within L) (length (free_edges c)))
        (counted_ordered (values L) (pos 0) ◌<ℤ◌ (values_ordered L) (length (free_edges c)))))
      where
        before : (xs ys : List ℤ) → length xs ≡ length (free_edges c) → Smaller (pos 0) ◌<ℤ◌ xs ys → Before c (candidate xs) (candidate ys)
        before xs ys l r =
            let h : r.at < length (free_edges c) = omega (arith, r.within) in
            record {
              edge = get_or (free_edges c) r.at 0;
              free = member_listed (place_member 0 (free_edges c) r.at h);
              less = rw ((candidate_chosen xs).free r.at h, (candidate_chosen ys).free r.at h) r.less;
              above = λ e k f. above h e k (free_place c (accepted_tree c accepted) e f);
            }
          where
            above : r.at < length (free_edges c) → (e : ℕ) → get_or (free_edges c) r.at 0 < e → (i : ℕ) × (i < length (free_edges c)) × (get_or (free_edges c) i 0 ≡ e)
                → get_or (candidate xs) e (pos 0) ≡ get_or (candidate ys) e (pos 0)
            above h e k (i, m, f) =
                rw (← f)
                ((candidate_chosen xs).free i m ∙ r.above i (earlier c (accepted_tree c accepted) r.at i h m (omega arith)) ∙ sym ((candidate_chosen ys).free i m))

    pub states_kept : listing c q L ≡ keep (within L) (map candidate choices)
    states_kept = sym (complete_listing c accepted q L _ (complete_from c q L candidates_member candidates_states candidates_ordered))
