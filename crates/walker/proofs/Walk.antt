-- The walk goes through all states, block after block.
use Prim.Native.Nat.{ℕ, zero, suc, ◌+◌, ◌-◌, ◌*◌, ◌^◌, ◌≤◌, ◌<◌}
use mathlib.Core.List.{List, [], ◌∷◌, map, map-map, flat_map, append-nil}
use mathlib.Core.Bool.{Bool, true, false, cond}
use mathlib.Core.Path.{◌≡◌, refl, sym, ◌∙◌, ap}
use native.Mathlib.Omega.{arith}
use native.Mathlib.Nat.{pow-zero}
use native.Mathlib.Decide.{dec_lt}
use lib.IntN.{ℤ, pos, ◌+ℤ◌, ◌-ℤ◌, neg_ℤ, nat_abs, zero-*ℤ, +ℤ_idr}
use lib.Signed.{lt_z}
use lib.ListN.{get_or, length, replicate, length-replicate}
use Rattle.mathematics.specs.Integers.{sum_below}
use Rattle.mathematics.specs.Counting.{below, keep, counted, applied}
use Rattle.mathematics.proofs.Integers.{positive, negative, integral, parts, parts_size, one_part, the, ◌⊞◌, ◌⊟◌, test_less, test_not_less}
use Rattle.mathematics.proofs.Flat.{keep_flat_map, flat_map_same, map_flat_map, flat_map_map}
use Rattle.mathematics.proofs.Maps.{map_same}
use Rattle.complex.specs.Complex.{Complex}
use Rattle.complex.specs.Judge.{Accepted}
use Rattle.gauss_law.specs.Listing.{free_edges, values, listing}
use Rattle.cycles.specs.Cycles.{with_cycle, Tables}
use Rattle.walker.specs.Walker.{counted_up, stepped, block, width, walked, walked_states}
use Rattle.walker.specs.Steps.{Small}
use Rattle.mathematics.proofs.Pasted.{entry_set}
use Rattle.walker.proofs.Counter.{moved, up_from, up, up_later, up_length, value, after, after_length, counted_steps}
use Rattle.walker.proofs.Candidates.{Chosen, added_chosen, stepped_chosen, within, candidate, chosen_candidate, states_kept}
use Rattle.gauss_law.proofs.Accepted.{accepted_tree}
use Rattle.walker.proofs.Combined.{chosen_small}
use Rattle.walker.proofs.Interval.{block_kept}

pub added_none : (s z : List ℤ) → with_cycle s (pos 0) z ≡ s
unfolding with_cycle
added_none [] z = refl
added_none (x ∷ s) [] = refl
added_none (x ∷ s) (y ∷ z) = rw (zero-*ℤ y, +ℤ_idr x, added_none s z)

-- ---- digits from -L to L
lowest_small : (L n : ℕ) → Small L (replicate n (value L zero))
unfolding positive negative
lowest_small L zero i = omega arith
lowest_small L (suc n) zero = omega (arith, parts_size (value L zero), one_part (value L zero), parts (the (pos zero) ⊟ the (pos L)))
lowest_small L (suc n) (suc i) = lowest_small L n i

moved_small : (L : ℕ) (xs : List ℤ) (t : ℤ) (j : ℕ) → Small L xs → nat_abs (get_or xs j (pos 0) +ℤ t) ≤ L → Small L (moved xs t j)
unfolding moved
moved_small L xs t j h k = entry_set (λ x. nat_abs x ≤ L) xs j (get_or xs j (pos 0) +ℤ t) (pos 0) k h

raised : (L : ℕ) (x : ℤ) → nat_abs x ≤ L → lt_z x (pos L) ≡ true → nat_abs (x +ℤ pos 1) ≤ L
unfolding positive negative
raised L x h e = omega (arith, test_less x (pos L) e, parts_size x, one_part x, parts_size (x +ℤ pos 1), one_part (x +ℤ pos 1), parts (the x ⊞ the (pos 1)))

lowered : (L : ℕ) (x : ℤ) → nat_abs x ≤ L → lt_z x (pos L) ≡ false → nat_abs (x +ℤ neg_ℤ (pos (2 * L))) ≤ L
unfolding positive negative
lowered L x h e =
    omega (arith, test_not_less x (pos L) e, parts_size x, one_part x, parts_size (x -ℤ pos (2 * L)), one_part (x -ℤ pos (2 * L)), parts (the x ⊟ the (pos (2 * L))))

up_small : (L : ℕ) (xs : List ℤ) (n j : ℕ) → Small L xs → Small L (up_from L n j xs)
unfolding up_from counted_up
up_small L xs zero j h = h
up_small L xs (suc n) j h = go (lt_z (get_or xs j (pos 0)) (pos L)) refl (up_small L (moved xs (neg_ℤ (pos (2 * L))) j) n (suc j))
  where
    go : (b : Bool) → lt_z (get_or xs j (pos 0)) (pos L) ≡ b → (Small L (moved xs (neg_ℤ (pos (2 * L))) j) → Small L (up_from L n (suc j) (moved xs (neg_ℤ (pos (2 * L))) j)))
        → Small L (cond b (moved xs (pos 1) j) (up_from L n (suc j) (moved xs (neg_ℤ (pos (2 * L))) j)))
    go true e ih = moved_small L xs (pos 1) j h (raised L (get_or xs j (pos 0)) (h j) e)
    go false e ih = ih (moved_small L xs (neg_ℤ (pos (2 * L))) j h (lowered L (get_or xs j (pos 0)) (h j) e))

-- a lawful assignment with free values from -L to L
record Digits (c : Complex) (q : ℕ → ℤ) (L : ℕ) (s : List ℤ) : Type 0 where
  digits : List ℤ
  number : length digits ≡ length (free_edges c)
  small : Small L digits
  chosen : Chosen c q digits s

module _ (c : Complex) (accepted : Accepted c) (q : ℕ → ℤ) (charges : sum_below q c.vertices ≡ pos 0) (free : List ℕ) (cycle : ℕ → List ℤ) (tables : Tables c free cycle)
    (L : ℕ) (s : List ℤ) (lowest : Chosen c q (replicate (length (free_edges c)) (value L zero)) s) where
  -- ---- with m free edges more than one
  module _ (m : ℕ) (number : length (free_edges c) ≡ suc m) where
    -- the values of all free edges but the first, after k steps
    abbrev rest : ℕ → List ℤ
    rest k = after L (replicate m (value L zero)) k

    walked_chosen : (k : ℕ) → Chosen c q (value L zero ∷ rest k) (walked free cycle L (suc m) s k)
    unfolding walked applied up
    walked_chosen zero = rw number at lowest
    walked_chosen (suc k) =
        let n : length (rest k) ≡ suc m - 1 = omega (arith, after_length L m k) in
        let e : up L (rest k) ≡ up_from L (suc m - 1) zero (rest k) = ap (λ n. up_from L n zero (rest k)) n in
        rw (up_later L (suc m - 1) zero (value L zero) (rest k), ← e) at
        (stepped_chosen c q free cycle tables L (suc m - 1) 1 (value L zero ∷ rest k) (walked free cycle L (suc m) s k) (omega arith) (omega (arith, after_length L m k)) (walked_chosen k))

    value_up : (d : ℕ) → value L zero +ℤ pos d ≡ value L d
    unfolding positive negative
    value_up d = omega (integral, parts (the (pos zero) ⊟ the (pos L) ⊞ the (pos d)), parts (the (pos d) ⊟ the (pos L)))

    in_block : (k d : ℕ) → candidate c accepted q charges (value L d ∷ rest k) ≡ with_cycle (walked free cycle L (suc m) s k) (pos d) (cycle 0)
    unfolding moved
    in_block k d =
        chosen_candidate c accepted q charges (value L d ∷ rest k) _
        (rw (value_up d) at
        (added_chosen c q 0 (omega arith) (cycle 0) (tables.cycles 0 (omega arith)) (pos d) (value L zero ∷ rest k) (walked free cycle L (suc m) s k) (omega (arith, after_length L m k)) (walked_chosen k)))

    block_states : (k : ℕ) → keep (within L) (map (candidate c accepted q charges) (map (λ x. x ∷ rest k) (values L))) ≡ block L (2 * L + 1) (walked free cycle L (suc m) s k) (cycle 0)
    unfolding values
    block_states k =
        let S = walked free cycle L (suc m) s k in
        let long : length (cycle 0) ≡ length S = tables.first_sized ∙ sym (walked_chosen k).sized in
        rw (
          map-map (λ x. x ∷ rest k) (value L) (below (2 * L + 1)),
          map-map (candidate c accepted q charges) (λ d. value L d ∷ rest k) (below (2 * L + 1)),
          map_same (λ d. candidate c accepted q charges (value L d ∷ rest k)) (λ d. with_cycle S (pos d) (cycle 0)) (below (2 * L + 1)) (in_block k),
        )
        (block_kept L (2 * L + 1) S (cycle 0) tables.first_signs long)

    some_free : listing c q L ≡ walked_states free cycle L (suc m) s ((2 * L + 1) ^ m)
    unfolding walked_states width counted
    some_free =
        let f = candidate c accepted q charges in
        let g : List ℤ → List (List ℤ) = λ r. map (λ x. x ∷ r) (values L) in
        let N = (2 * L + 1) ^ m in
        states_kept c accepted q charges L
        ∙ rw number
        (ap (keep (within L)) (map_flat_map f g (counted (values L) m))
        ∙ keep_flat_map (λ r. map f (g r)) (within L) (counted (values L) m)
        ∙ ap (flat_map (λ r. keep (within L) (map f (g r)))) (counted_steps L m)
        ∙ flat_map_map (λ r. keep (within L) (map f (g r))) rest (below N)
        ∙ flat_map_same (λ k. keep (within L) (map f (g (rest k)))) (λ k. block L (2 * L + 1) (walked free cycle L (suc m) s k) (cycle 0)) (below N) block_states)

  -- ---- without a free edge
  no_free : length (free_edges c) ≡ 0 → listing c q L ≡ walked_states free cycle L 0 s 1
  unfolding walked_states width walked applied counted below flat_map
  no_free number =
      let f = candidate c accepted q charges in
      let none : Chosen c q [] s = rw number at lowest in
      let long : length (cycle 0) ≡ length s = tables.first_sized ∙ sym lowest.sized in
      states_kept c accepted q charges L
      ∙ rw number
      (rw (chosen_candidate c accepted q charges [] s none)
      ((rw (added_none s (cycle 0)) at (block_kept L 1 s (cycle 0) tables.first_signs long)) ∙ sym (append-nil (block L 1 s (cycle 0)))))

  pub all_states : listing c q L ≡ walked_states free cycle L (length (free_edges c)) s ((2 * L + 1) ^ (length (free_edges c) - 1))
  all_states = go (length (free_edges c)) refl
    where
      go : (n : ℕ) → length (free_edges c) ≡ n → listing c q L ≡ walked_states free cycle L n s ((2 * L + 1) ^ (n - 1))
      go zero e = rw (pow-zero (2 * L + 1)) (no_free e)
      go (suc m) e = let p : suc m - 1 ≡ m = omega arith in rw p (some_free m e)

  -- ---- the values stay small
  stepped_digits : (t : List ℤ) → Digits c q L t → Digits c q L (stepped free cycle L (length (free_edges c) - 1) 1 t)
  unfolding stepped counted_up
  stepped_digits t h = go (dec_lt 0 (length (free_edges c)))
    where
      n : ℕ
      n = length (free_edges c) - 1

      none : n ≡ 0 → stepped free cycle L n 1 t ≡ t
      none e = rw e

      go : Dec (0 < length (free_edges c)) → Digits c q L (stepped free cycle L (length (free_edges c) - 1) 1 t)
      go (yes k) =
          record {
            digits = up_from L n 1 h.digits;
            number = up_length L n 1 h.digits ∙ h.number;
            small = up_small L h.digits n 1 h.small;
            chosen = stepped_chosen c q free cycle tables L n 1 h.digits t (omega arith) h.number h.chosen;
          }
      go (no k) = let e : n ≡ 0 = omega arith in rw (none e) h

  walked_digits : (k : ℕ) → Digits c q L (walked free cycle L (length (free_edges c)) s k)
  unfolding walked applied
  walked_digits zero = record { digits = replicate (length (free_edges c)) (value L zero); number = length-replicate (length (free_edges c)) (value L zero); small = lowest_small L (length (free_edges c)); chosen = lowest }
  walked_digits (suc k) = stepped_digits (walked free cycle L (length (free_edges c)) s k) (walked_digits k)

  pub walked_small : (p : List ℤ) (B : ℕ) → Chosen c q (replicate (length (free_edges c)) (pos 0)) p → Small B p
      → (k : ℕ) → Small (B + length (free_edges c) * L) (walked free cycle L (length (free_edges c)) s k)
  walked_small p B start b k =
      let r = walked_digits k in
      chosen_small c q free cycle tables p start (accepted_tree c accepted) B L b r.digits _ r.small r.chosen

  pub walked_long : (k : ℕ) → length (walked free cycle L (length (free_edges c)) s k) ≡ length c.edges
  walked_long k = (walked_digits k).chosen.sized
