-- The next state of the list: where the first cycle can be added to a state, the sum stands right behind it.
use Prim.Native.Nat.{ℕ, zero, suc, ◌+◌, ◌<◌, ◌≤◌}
use mathlib.Core.List.{List, []}
use mathlib.Core.Path.{◌≡◌, refl, sym, ap, ◌∙◌}
use mathlib.Core.Logic.{◌≢◌}
use native.Mathlib.Nat.{add-zero}
use native.Mathlib.Omega.{arith}
use native.Mathlib.Decide.{dec_lt, ℕ_discrete}
use lib.Dec.{eqb}
use lib.IntN.{ℤ, pos, nat_abs, ◌+ℤ◌, ◌*ℤ◌, *ℤ-zero}
use lib.Signed.{◌<ℤ◌}
use lib.ListN.{get_or, length}
use Rattle.walker.proofs.Walk.{added_none}
use Rattle.mathematics.specs.Lists.{position}
use Rattle.mathematics.proofs.Integers.{positive, negative, parts_sum, to_parts, by_parts, less_to_parts, times_one}
use Rattle.mathematics.proofs.Ordered.{ordered_at}
use Rattle.mathematics.proofs.Below.{listed_member, place_right}
use Rattle.complex.specs.Complex.{Complex}
use Rattle.complex.specs.Judge.{Accepted}
use Rattle.gauss_law.specs.Gauss.{State}
use Rattle.gauss_law.specs.Listing.{free_edges, Free, Before, states}
use Rattle.gauss_law.proofs.Free.{free_rising}
use Rattle.gauss_law.proofs.Accepted.{states_ordered}
use Rattle.cycles.specs.Cycles.{with_cycle, Cycle}
use Rattle.cycles.proofs.Adding.{added_length, added_at, gauss_closed}
use Rattle.hilbert.specs.Basis.{place, At}
use Rattle.hilbert.proofs.Order.{state_in_basis, in_basis_at}
use Rattle.plaquettes.proofs.TriangleTelling.{state_there}

module _ (c : Complex) (accepted : Accepted c) (L : ℕ) where
  -- the first free edge is the lowest
  lowest : (e : ℕ) → Free c e → get_or (free_edges c) 0 0 ≤ e
  lowest e h = go (position eqb e (free_edges c)) (place_right 0 (listed_member e (free_edges c) h)).0 (place_right 0 (listed_member e (free_edges c) h)).1
    where
      go : (k : ℕ) → k < length (free_edges c) → get_or (free_edges c) k 0 ≡ e → get_or (free_edges c) 0 0 ≤ e
      go zero l is = omega (arith, is)
      go (suc k) l is = omega (arith, is, ordered_at 0 (free_rising c) 0 (suc k) (omega arith) l)

  -- a state that has 1 more on the first free edge, and the same on the other free edges, is the next
  module _ (i : ℕ) (h : i < length (states c L)) (t : List ℤ) (state : State c c.charges L t) where
    abbrev s : List ℤ
    s = get_or (states c L) i []

    abbrev f : ℕ
    f = get_or (free_edges c) 0 0

    module _ (rise : get_or t f (pos 0) ≡ get_or s f (pos 0) +ℤ pos 1) (same : (e : ℕ) → Free c e → e ≢ f → get_or t e (pos 0) ≡ get_or s e (pos 0)) where
      stands : At c L t (place c L t)
      stands = in_basis_at c accepted L t state.sized (state_in_basis c L t state)

      not_before : (p : ℕ) → At c L t p → p < i → ⊥
      unfolding positive negative
      not_before p at-t l = go (rw at-t.state at (states_ordered c accepted L p i l h))
        where
          go : Before c t s → ⊥
          go b = by (ℕ_discrete b.edge f)
            where
              by : Dec (b.edge ≡ f) → ⊥
              by (yes e) = omega (arith, less_to_parts _ _ (rw e at b.less), to_parts _ _ rise, parts_sum (get_or s f (pos 0)) (pos 1))
              by (no e) = omega (arith, less_to_parts _ _ b.less, to_parts _ _ (same b.edge b.free e))

      not_itself : At c L t i → ⊥
      unfolding positive negative
      not_itself at-t = omega (arith, to_parts _ _ (ap (λ l. get_or l f (pos 0)) at-t.state ∙ rise), parts_sum (get_or s f (pos 0)) (pos 1))

      not_beyond : (p : ℕ) → At c L t p → i + 1 < p → ⊥
      unfolding positive negative
      not_beyond p at-t l = go (states_ordered c accepted L i (i + 1) (omega arith) (omega (arith, l, at-t.below))) (rw at-t.state at (states_ordered c accepted L (i + 1) p l at-t.below))
        where
          z : List ℤ
          z = get_or (states c L) (i + 1) []

          go : Before c s z → Before c z t → ⊥
          go a b = by (dec_lt a.edge b.edge) (dec_lt b.edge a.edge)
            where
              by : Dec (a.edge < b.edge) → Dec (b.edge < a.edge) → ⊥
              by (yes k) r = on (ℕ_discrete b.edge f)
                where
                  on : Dec (b.edge ≡ f) → ⊥
                  on (yes e) = omega (arith, k, e, lowest a.edge a.free)
                  on (no e) = omega (arith, less_to_parts _ _ b.less, to_parts _ _ (a.above b.edge k b.free), to_parts _ _ (same b.edge b.free e))
              by (no k) (yes r) = on (ℕ_discrete a.edge f)
                where
                  on : Dec (a.edge ≡ f) → ⊥
                  on (yes e) = omega (arith, r, e, lowest b.edge b.free)
                  on (no e) = omega (arith, less_to_parts _ _ a.less, to_parts _ _ (b.above a.edge r a.free), to_parts _ _ (same a.edge a.free e))
              by (no k) (no r) = on (ℕ_discrete a.edge f)
                where
                  e : b.edge ≡ a.edge
                  e = omega arith

                  after : get_or z a.edge (pos 0) <ℤ get_or t a.edge (pos 0)
                  after = rw e at b.less

                  on : Dec (a.edge ≡ f) → ⊥
                  on (yes d) = omega (arith, less_to_parts _ _ (rw d at a.less), less_to_parts _ _ (rw d at after), to_parts _ _ rise, parts_sum (get_or s f (pos 0)) (pos 1))
                  on (no d) = omega (arith, less_to_parts _ _ a.less, less_to_parts _ _ after, to_parts _ _ (same a.edge a.free d))

      pub next_state : At c L t (i + 1)
      next_state = go (dec_lt (place c L t) i) (ℕ_discrete (place c L t) i) (dec_lt (i + 1) (place c L t))
        where
          go : Dec (place c L t < i) → Dec (place c L t ≡ i) → Dec (i + 1 < place c L t) → At c L t (i + 1)
          go (yes l) d r = absurd (not_before _ stands l)
          go (no l) (yes d) r = absurd (not_itself (rw d at stands))
          go (no l) (no d) (yes r) = absurd (not_beyond _ stands r)
          go (no l) (no d) (no r) = let e : place c L t ≡ i + 1 = omega arith in rw e at stands

-- ---- the first cycle, added again and again
sum_suc : (x : ℤ) (d : ℕ) → x +ℤ pos (suc d) ≡ (x +ℤ pos d) +ℤ pos 1
unfolding positive negative
sum_suc x d = by_parts _ _ (omega (arith, parts_sum x (pos (suc d)), parts_sum x (pos d), parts_sum (x +ℤ pos d) (pos 1)))

module _ (c : Complex) (accepted : Accepted c) (L : ℕ) (z : List ℤ) (cycle : Cycle c (get_or (free_edges c) 0 0) z) (i : ℕ) (h : i < length (states c L)) where
  abbrev base : List ℤ
  base = get_or (states c L) i []

  long : length z ≡ length base
  long = cycle.sized ∙ sym (state_there c accepted L i h).sized

  module _ (d : ℕ) (inside : (e : ℕ) → e < length c.edges → nat_abs (get_or base e (pos 0) +ℤ pos d *ℤ get_or z e (pos 0)) ≤ L) where
    cycle_state : State c c.charges L (with_cycle base (pos d) z)
    cycle_state =
        let is = state_there c accepted L i h in
        record {
          sized = added_length base (pos d) z ∙ is.sized;
          within = λ e l. rw (added_at base (pos d) z e long) (inside e l);
          law = λ v l. gauss_closed c.edges base (pos d) z v long (cycle.closed v l) ∙ is.law v l;
        }

  pub run_states : (d : ℕ) → ((k : ℕ) → k ≤ d → (e : ℕ) → e < length c.edges → nat_abs (get_or base e (pos 0) +ℤ pos k *ℤ get_or z e (pos 0)) ≤ L) → At c L (with_cycle base (pos d) z) (i + d)
  run_states zero inside = rw (added_none base z, add-zero i) (record { below = h; state = refl })
  run_states (suc d) inside =
      let before = run_states d (λ k l. inside k (omega arith)) in
      let e : i + suc d ≡ i + d + 1 = omega arith in
      rw e (next_state c accepted L (i + d) before.below (with_cycle base (pos (suc d)) z) (cycle_state (suc d) (inside (suc d) (omega arith))) (rises before.state) (keeps before.state))
    where
      rises : get_or (states c L) (i + d) [] ≡ with_cycle base (pos d) z → get_or (with_cycle base (pos (suc d)) z) (get_or (free_edges c) 0 0) (pos 0) ≡ get_or (get_or (states c L) (i + d) []) (get_or (free_edges c) 0 0) (pos 0) +ℤ pos 1
      rises is =
          let f = get_or (free_edges c) 0 0 in
          let x = get_or base f (pos 0) in
          rw (is, added_at base (pos (suc d)) z f long, added_at base (pos d) z f long, cycle.own, times_one (pos (suc d)), times_one (pos d)) (sum_suc x d)

      keeps : get_or (states c L) (i + d) [] ≡ with_cycle base (pos d) z → (e : ℕ) → Free c e → e ≢ get_or (free_edges c) 0 0 → get_or (with_cycle base (pos (suc d)) z) e (pos 0) ≡ get_or (get_or (states c L) (i + d) []) e (pos 0)
      keeps is e free apart =
          rw (is, added_at base (pos (suc d)) z e long, added_at base (pos d) z e long, cycle.others e free apart, *ℤ-zero (pos (suc d)), *ℤ-zero (pos d))
