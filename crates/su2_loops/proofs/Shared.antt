-- The edges that a state shares with a mask: the bits that both have are these edges, and the sums agree.
use Prim.Native.Nat.{ℕ, zero, suc, ◌+◌, ◌/◌, ◌%◌, ◌^◌, ◌≤◌, ◌<◌, min}
use mathlib.Core.List.{List, ◌++◌}
use mathlib.Core.Bool.{◌&&◌, cond}
use mathlib.Core.Path.{◌≡◌, refl, sym, ap, ap₂, ◌∙◌}
use native.Mathlib.Nat.{pow-suc, lt_of_le_of_lt}
use native.Mathlib.Numerals.{add-one}
use native.Mathlib.Omega.{arith}
use lib.Arith.{lt-one}
use lib.Bits.{bit_and, and_step, and_le_l}
use lib.Count.{ones, ones_in, ones_step}
use lib.Dec.{eqb}
use lib.Ieee.{Float, binary64, nan, add, mul}
use lib.ListN.{get_or, length, get_or-append}
use Rattle.mathematics.specs.Bits.{bit}
use Rattle.mathematics.proofs.Bits.{bit_below}
use Rattle.mathematics.proofs.Totals.{total, total_same, keep_total}
use Rattle.complex.specs.Complex.{Complex}
use Rattle.complex.specs.Judge.{Accepted}
use Rattle.su2_even_sets.specs.EvenSets.{chosen, su2_states}
use Rattle.su2_even_sets.proofs.EvenLists.{even_complete}
use Rattle.su2_loops.specs.Loop.{met, sign_of, su2_loop_sum, su2_expectation, mask_sum}

-- ---- bit by bit
and_half : (x y : ℕ) → bit_and x y / 2 ≡ bit_and (x / 2) (y / 2)
and_half x y = omega (arith, and_step x y)

and_last : (x y : ℕ) → bit_and x y % 2 ≡ min (x % 2) (y % 2)
and_last x y = omega (arith, and_step x y)

bit_and_lem : (x y i : ℕ) → bit (bit_and x y) i ≡ min (bit x i) (bit y i)
unfolding bit
bit_and_lem x y zero = and_last x y
bit_and_lem x y (suc i) = rw (and_half x y) (bit_and_lem (x / 2) (y / 2) i)

-- the number of ones is the sum of the bits
total_first : (f : ℕ → ℕ) (n : ℕ) → total f (suc n) ≡ f 0 + total (λ i. f (suc i)) n
unfolding total
total_first f zero = omega arith
total_first f (suc n) = omega (arith, total_first f n)

ones_total : (n x : ℕ) → x < 2 ^ n → ones x ≡ total (bit x) n
unfolding total bit ones ones_in
ones_total zero x h = ap ones (lt-one h)
ones_total (suc n) x h = omega (arith, ones_step x, ones_total n (x / 2) (omega (arith, pow-suc 2 n)), total_first (bit x) n)

-- ---- the number of shared edges
both_set : (a b : ℕ) → a < 2 → b < 2 → min a b ≡ cond (eqb a 1 && eqb b 1) 1 0
both_set zero zero h k = refl
both_set zero (suc zero) h k = refl
both_set (suc zero) zero h k = refl
both_set (suc zero) (suc zero) h k = refl
both_set zero (suc (suc b)) h k = absurd (omega arith)
both_set (suc zero) (suc (suc b)) h k = absurd (omega arith)
both_set (suc (suc a)) b h k = absurd (omega arith)

shared_met : (c : Complex) (mask x : ℕ) → x < 2 ^ length c.edges → ones (bit_and x mask) ≡ met c (chosen mask) x
unfolding met chosen
shared_met c mask x h =
    let few : bit_and x mask < 2 ^ length c.edges = lt_of_le_of_lt (and_le_l x mask) h in
    ones_total (length c.edges) (bit_and x mask) few
    ∙ total_same (bit (bit_and x mask)) (λ e. cond (chosen x e && chosen mask e) 1 0) (length c.edges)
    (λ e b. bit_and_lem x mask e ∙ both_set (bit x e) (bit mask e) (bit_below x e) (bit_below mask e))
    ∙ sym (keep_total (λ e. chosen x e && chosen mask e) (length c.edges))

-- ---- one turn of the loop
pub sum_more : (vector : List Float) (states : List ℕ) (mask i : ℕ)
    → mask_sum vector states mask (i + 1) ≡ add binary64 (mask_sum vector states mask i) (mul binary64 (mul binary64 (get_or vector i nan) (get_or vector i nan)) (sign_of (ones (bit_and (get_or states i 0) mask))))
unfolding mask_sum
sum_more vector states mask i = ap (mask_sum vector states mask) (add-one i)

pub sum_step : (vector : List Float) (states : List ℕ) (mask i : ℕ) (sum amplitude sign : Float) (state : ℕ)
    → sum ≡ mask_sum vector states mask i → amplitude ≡ get_or vector i nan → state ≡ get_or states i 0 → sign ≡ sign_of (ones (bit_and state mask))
    → add binary64 sum (mul binary64 (mul binary64 amplitude amplitude) sign) ≡ mask_sum vector states mask (i + 1)
sum_step vector states mask i sum amplitude sign state so_far a s turned = rw (sum_more vector states mask i, so_far, turned, a, s)

-- ---- the sum over the states
module _ (c : Complex) (accepted : Accepted c) (vector : List Float) (mask : ℕ) (states rest : List ℕ) (begins : states ≡ su2_states c ++ rest) where
  sum_is : (n : ℕ) → n ≤ length (su2_states c) → mask_sum vector states mask n ≡ su2_loop_sum c vector (chosen mask) n
  unfolding mask_sum su2_loop_sum
  sum_is zero h = refl
  sum_is (suc i) h =
      let state : get_or states i 0 ≡ get_or (su2_states c) i 0 = rw begins (get_or-append (su2_states c) rest 0 i h) in
      let few : get_or (su2_states c) i 0 < 2 ^ length c.edges = ((even_complete c accepted).only (get_or (su2_states c) i 0) (i, h, refl)).0 in
      ap₂ (λ x (k : ℕ). add binary64 x (mul binary64 (mul binary64 (get_or vector i nan) (get_or vector i nan)) (sign_of k))) (sum_is i (omega arith))
      (ap (λ (x : ℕ). ones (bit_and x mask)) state ∙ shared_met c mask (get_or (su2_states c) i 0) few)

  pub sum_told : (n : ℕ) (x : Float) → x ≡ mask_sum vector states mask n → n ≡ length (su2_states c) → x ≡ su2_expectation c vector (chosen mask)
  unfolding su2_expectation
  sum_told n x is number = is ∙ ap (mask_sum vector states mask) number ∙ sum_is (length (su2_states c)) (omega arith)
