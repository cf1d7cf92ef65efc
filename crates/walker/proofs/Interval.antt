-- The multiples of a cycle that keep an assignment within -L to L are an interval.
use Prim.Native.Nat.{ℕ, zero, suc, ◌+◌, ◌-◌, ◌≤◌, ◌<◌}
use mathlib.Core.List.{List, map, map-map}
use mathlib.Core.Bool.{Bool, true, false, ◌&&◌, cond}
use mathlib.Core.Path.{◌≡◌, refl, sym, ◌∙◌, ap}
use native.Mathlib.Omega.{arith}
use native.Mathlib.Decide.{ℕ_discrete, dec_le}
use lib.Dec.{leb, ltb}
use lib.IntN.{ℤ, pos, negsuc, ◌+ℤ◌, ◌-ℤ◌, ◌*ℤ◌, neg_ℤ, nat_abs, *ℤ_comm, *ℤ-zero, +ℤ_idr}
use lib.Signed.{lt_z}
use lib.ListN.{get_or, length}
use borrow.Author.Tests.{leb-true, ltb-true, le-leb, lt-leb, lt-ltb}
use Rattle.mathematics.specs.Integers.{equal}
use Rattle.mathematics.specs.Counting.{below, keep}
use Rattle.mathematics.proofs.Tests.{and_parts, and_both, same_tests}
use Rattle.mathematics.proofs.Maps.{keep_map}
use Rattle.mathematics.proofs.Integers.{positive, negative, parts, parts_size, one_part, the, ◌⊞◌, ◌⊟◌, ⊖◌, test_less, test_not_less, times_one, times_minus_one, minus_one_times}
use Rattle.cycles.specs.Cycles.{with_cycle}
use Rattle.walker.specs.Steps.{Small}
use Rattle.walker.specs.Walker.{excess, entry_start, entry_stop, first_within, end_within, block_rows, block}
use Rattle.cycles.proofs.Adding.{added_length, added_at}
use Rattle.mathematics.proofs.Below.{keep_between}
use Rattle.walker.proofs.Candidates.{within, within_at, at_within}

excess_parts : (a b : ℤ) → excess a b ≡ (positive a + negative b) - (positive b + negative a)
unfolding excess
excess_parts a b = go (lt_z b a) refl
  where
    go : (t : Bool) → lt_z b a ≡ t → cond t (nat_abs (a -ℤ b)) 0 ≡ (positive a + negative b) - (positive b + negative a)
    go true e = omega (arith, test_less b a e, parts_size (a -ℤ b), one_part (a -ℤ b), parts (the a ⊟ the b))
    go false e = omega (arith, test_not_less b a e)

-- ---- one entry
module _ (L n d : ℕ) where
  -- in natural numbers
  sum_size : (y : ℤ) → nat_abs (y +ℤ pos d) ≡ (positive y + d - negative y) + (negative y - (positive y + d))
  unfolding positive negative
  sum_size y = omega (arith, parts_size (y +ℤ pos d), one_part (y +ℤ pos d), parts (the y ⊞ the (pos d)))

  below_size : (y : ℤ) → excess (neg_ℤ (pos L)) y ≡ negative y - (positive y + L)
  unfolding positive negative
  below_size y = omega (arith, excess_parts (neg_ℤ (pos L)) y, parts (⊖ the (pos L)), one_part (neg_ℤ (pos L)))

  above_size : (y : ℤ) → excess (pos (suc L)) y ≡ suc L + negative y - positive y
  unfolding positive negative
  above_size y = omega (arith, excess_parts (pos (suc L)) y)

  -- d more than y
  sum_inside : (y : ℤ) → nat_abs (y +ℤ pos d) ≤ L → (excess (neg_ℤ (pos L)) y ≤ d) × (d < excess (pos (suc L)) y)
  sum_inside y r = (omega (arith, sum_size y, below_size y), omega (arith, sum_size y, above_size y))

  inside_sum : (y : ℤ) → excess (neg_ℤ (pos L)) y ≤ d → d < excess (pos (suc L)) y → nat_abs (y +ℤ pos d) ≤ L
  inside_sum y a b = omega (arith, sum_size y, below_size y, above_size y)

  -- the sign goes over to the entry
  plus_size : (x : ℤ) → nat_abs (x +ℤ pos d *ℤ pos 1) ≡ nat_abs (pos 1 *ℤ x +ℤ pos d)
  plus_size x = rw (*ℤ_comm (pos 1) x, times_one x, times_one (pos d))

  minus_size : (x : ℤ) → nat_abs (x +ℤ pos d *ℤ negsuc 0) ≡ nat_abs (negsuc 0 *ℤ x +ℤ pos d)
  unfolding positive negative
  minus_size x =
      rw (minus_one_times x, times_minus_one (pos d))
      (omega (arith, parts_size (x -ℤ pos d), parts_size (neg_ℤ x +ℤ pos d), one_part (x -ℤ pos d), one_part (neg_ℤ x +ℤ pos d), parts (the x ⊟ the (pos d)), parts ((⊖ the x) ⊞ the (pos d))))

  entry_inside : (x s : ℤ) → nat_abs s ≤ 1 → d < n → nat_abs (x +ℤ pos d *ℤ s) ≤ L → (entry_start L n x s ≤ d) × (d < entry_stop L n x s)
  unfolding entry_start entry_stop equal
  entry_inside x (pos zero) h k r =
      let r' : nat_abs x ≤ L = rw (*ℤ-zero (pos d), +ℤ_idr x) at r in
      rw (le-leb (nat_abs x) L r') (omega arith, k)
  entry_inside x (pos (suc zero)) h k r = sum_inside (pos 1 *ℤ x) (rw (plus_size x) at r)
  entry_inside x (pos (suc (suc m))) h k r = absurd (omega arith)
  entry_inside x (negsuc zero) h k r = sum_inside (negsuc 0 *ℤ x) (rw (minus_size x) at r)
  entry_inside x (negsuc (suc m)) h k r = absurd (omega arith)

  inside_entry : (x s : ℤ) → nat_abs s ≤ 1 → d < n → entry_start L n x s ≤ d → d < entry_stop L n x s → nat_abs (x +ℤ pos d *ℤ s) ≤ L
  unfolding entry_start entry_stop equal
  inside_entry x (pos zero) h k a b = rw (*ℤ-zero (pos d), +ℤ_idr x) (go (dec_le (nat_abs x) L) a)
    where
      go : Dec (nat_abs x ≤ L) → cond (leb (nat_abs x) L) 0 n ≤ d → nat_abs x ≤ L
      go (yes i) a = i
      go (no i) a =
          let a' : n ≤ d = rw (lt-leb (nat_abs x) L (omega arith)) at a in
          absurd (omega arith)
  inside_entry x (pos (suc zero)) h k a b = rw (plus_size x) (inside_sum (pos 1 *ℤ x) a b)
  inside_entry x (pos (suc (suc m))) h k a b = absurd (omega arith)
  inside_entry x (negsuc zero) h k a b = rw (minus_size x) (inside_sum (negsuc 0 *ℤ x) a b)
  inside_entry x (negsuc (suc m)) h k a b = absurd (omega arith)

-- a test that says whether a number is from one to before another
pub between_tests : (b : Bool) (from to d : ℕ) → (b ≡ true → (from ≤ d) × (d < to)) → (from ≤ d → d < to → b ≡ true) → b ≡ (leb from d && ltb d to)
between_tests b from to d inside all =
    same_tests b (leb from d && ltb d to)
    (λ t. let i = inside t in and_both _ _ (le-leb _ d i.0) (lt-ltb d _ i.1))
    (λ t. let p = and_parts (leb from d) (ltb d to) t in all (leb-true _ d p.0) (ltb-true d _ p.1))

-- ---- all entries
pub stop_bound : (L n : ℕ) (s z : List ℤ) (m : ℕ) → end_within L n s z m ≤ n
unfolding end_within
stop_bound L n s z zero = omega arith
stop_bound L n s z (suc m) = omega (arith, stop_bound L n s z m)

module _ (L n : ℕ) (s z : List ℤ) (signs : Small 1 z) where
  abbrev pub moves : ℕ → ℕ → ℤ
  moves d e = get_or s e (pos 0) +ℤ pos d *ℤ get_or z e (pos 0)

  pub inside_span : (d m : ℕ) → d < n → ((e : ℕ) → e < m → nat_abs (moves d e) ≤ L) → (first_within L n s z m ≤ d) × (d < end_within L n s z m)
  unfolding first_within end_within
  inside_span d zero h k = (omega arith, h)
  inside_span d (suc m) h k =
      let r = inside_span d m h (λ e l. k e (omega arith)) in
      let t = entry_inside L n d (get_or s m (pos 0)) (get_or z m (pos 0)) (signs m) h (k m (omega arith)) in
      (omega (arith, r.0, t.0), omega (arith, r.1, t.1))

  pub span_inside : (d m : ℕ) → d < n → first_within L n s z m ≤ d → d < end_within L n s z m → (e : ℕ) → e < m → nat_abs (moves d e) ≤ L
  unfolding first_within end_within
  span_inside d zero h a b e k = absurd (omega arith)
  span_inside d (suc m) h a b e k = go (ℕ_discrete e m) (λ l. span_inside d m h (omega arith) (omega arith) e l)
    where
      go : Dec (e ≡ m) → (e < m → nat_abs (moves d e) ≤ L) → nat_abs (moves d e) ≤ L
      go (yes i) ih = rw i (inside_entry L n d (get_or s m (pos 0)) (get_or z m (pos 0)) (signs m) h (omega arith) (omega arith))
      go (no i) ih = ih (omega arith)

  module _ (long : length z ≡ length s) where
    -- a multiple is within the bounds where each of its entries is
    pub within_entries : (d : ℕ) → within L (with_cycle s (pos d) z) ≡ true → (e : ℕ) → e < length s → nat_abs (moves d e) ≤ L
    within_entries d t e k = rw (added_at s (pos d) z e long) at (within_at L (with_cycle s (pos d) z) t e (omega (arith, added_length s (pos d) z)))

    pub entries_within : (d : ℕ) → ((e : ℕ) → e < length s → nat_abs (moves d e) ≤ L) → within L (with_cycle s (pos d) z) ≡ true
    entries_within d h = at_within L (with_cycle s (pos d) z) (λ e k. rw (added_at s (pos d) z e long) (h e (omega (arith, added_length s (pos d) z))))

    within_span : (d : ℕ) → d < n → within L (with_cycle s (pos d) z) ≡ (leb (first_within L n s z (length s)) d && ltb d (end_within L n s z (length s)))
    within_span d h =
        between_tests (within L (with_cycle s (pos d) z)) (first_within L n s z (length s)) (end_within L n s z (length s)) d (λ t. inside_span d (length s) h (within_entries d t))
        (λ low high. entries_within d (span_inside d (length s) h low high))

    -- the multiples within the bounds, where they are an interval
    kept_rows : (from to : ℕ) → to ≤ n → ((d : ℕ) → d < n → within L (with_cycle s (pos d) z) ≡ (leb from d && ltb d to)) → keep (within L) (map (λ d. with_cycle s (pos d) z) (below n)) ≡ block_rows s z from to
    unfolding block_rows
    kept_rows from to bound tests =
        keep_map (within L) (λ d. with_cycle s (pos d) z) (below n)
        ∙ ap (map (λ d. with_cycle s (pos d) z)) (keep_between (λ d. within L (with_cycle s (pos d) z)) from to n bound tests)
        ∙ map-map (λ d. with_cycle s (pos d) z) (λ i. from + i) (below (to - from))

    pub block_kept : keep (within L) (map (λ d. with_cycle s (pos d) z) (below n)) ≡ block L n s z
    unfolding block
    block_kept = kept_rows (first_within L n s z (length s)) (end_within L n s z (length s)) (stop_bound L n s z (length s)) within_span

    pub rows_by_tests : (from to : ℕ) → to ≤ n → ((d : ℕ) → d < n → within L (with_cycle s (pos d) z) ≡ (leb from d && ltb d to)) → block_rows s z from to ≡ block L n s z
    rows_by_tests from to bound tests = sym (kept_rows from to bound tests) ∙ block_kept
