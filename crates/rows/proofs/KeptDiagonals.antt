-- The electric factor of a coupling in its range is above 0, and so is its product with a whole number from 1 on: such a diagonal is kept.
use Prim.{tt}
use Prim.Native.Nat.{ℕ, suc, ◌*◌, ◌^◌, ◌≤◌, ◌<◌}
use mathlib.Core.Bool.{Bool, true, false, ◌&&◌, false≢true}
use mathlib.Core.Path.{◌≡◌, refl, sym, ap, ◌∙◌}
use native.Mathlib.Nat.{mul_comm, mul-pos, one-mul}
use native.Mathlib.Omega.{arith}
use borrow.Author.Tests.{eqb-true, lt-ltb}
use lib.Dec.{T, eqb, ltb, ltb→lt, lt→ltb}
use lib.IntN.{pos, negsuc}
use lib.Ieee.{Float, binary64, nan, inf, fin, up, down, round, mul, div, le, lt, eq, of_int}
use lib.Ieee.Fits.{up_pos, down_pos}
use lib.Ieee.Order.{round_mono}
use lib.Ieee.Scale.{round_same}
use lib.Ieee.Positive.{positive, above, above_of_le, between, first_pos, cross→le, le_trans_positive, mul_mono}
use lib.Pow.{pow_pos}
use Rattle.mathematics.proofs.Tests.{and_parts}
use Rattle.mathematics.proofs.Lists.{or_right}
use Rattle.matrices.specs.declared.coupling.KSParams.{KSParams}
use Rattle.matrices.specs.Coupling.{float_of, coupling_right, params_right}
use Rattle.matrices.specs.Squares.{energy}
use Rattle.rows.specs.Row.{kept}

holds : (b : Bool) → b ≡ true → T b
holds true e = tt
holds false e = absurd (false≢true e)

-- ---- whole numbers as floats
zero_is : float_of 0 ≡ fin false 0 (pos 0)
unfolding float_of of_int round
zero_is = refl

pub one_is : float_of 1 ≡ fin false 1 (pos 0)
unfolding float_of of_int round
one_is = refl

most_is : float_of (2 ^ 26) ≡ fin false 1 (pos 26)
unfolding float_of of_int round
most_is = refl

lowest_is : div binary64 (float_of 1) (float_of (2 ^ 32)) ≡ fin false 1 (negsuc 31)
unfolding float_of of_int div round
lowest_is = refl

highest_is : float_of (2 ^ 32) ≡ fin false 1 (pos 32)
unfolding float_of of_int round
highest_is = refl

whole_rises : (j k : ℕ) → j ≤ k → T (le (float_of j) (float_of k))
unfolding float_of of_int
whole_rises j k h = round_mono binary64 j 1 k 1 (omega arith) (omega arith) (omega arith)

whole_above : (k : ℕ) → 1 ≤ k → T (le (fin false 1 (pos 0)) (float_of k))
whole_above k h = rw one_is at (whole_rises 1 k h)

whole_positive : (k : ℕ) → 1 ≤ k → k ≤ 2 ^ 26 → T (positive (float_of k))
whole_positive k h few = between (fin false 1 (pos 0)) (float_of k) (fin false 1 (pos 26)) tt tt (whole_above k h) (rw most_is at (whole_rises k (2 ^ 26) few))

-- ---- above 0
above_zero : (d m : ℕ) → 0 < m → ltb (0 * 1 * d) (m * 1) ≡ true
above_zero d m h = lt-ltb (0 * 1 * d) (m * 1) (omega arith)

above_kept : (z : Float) → T (above z) → kept z ≡ true
unfolding kept lt
above_kept nan p = absurd p
above_kept (inf true) p = absurd p
above_kept (inf false) p = rw zero_is
above_kept (fin true m e) p = absurd p
above_kept (fin false m e) p = rw zero_is (or_right (lt (fin false m e) (fin false 0 (pos 0))) (lt (fin false 0 (pos 0)) (fin false m e)) (above_zero (down e) (m * up e) (mul-pos (ltb→lt 0 m p) (up_pos e))))

-- what equals a float above 0
equal_positive : (x y : Float) → T (positive y) → eq x y ≡ true → T (positive x) × T (le y x)
unfolding eq
equal_positive x nan p h = absurd p
equal_positive x (inf t) p h = absurd p
equal_positive x (fin true n d) p h = absurd p
equal_positive nan (fin false n d) p h = absurd (false≢true h)
equal_positive (inf s) (fin false n d) p h = absurd (false≢true h)
equal_positive (fin true m e) (fin false n d) p h =
    let parts = and_parts (eqb (m * up e * down d) (n * up d * down e)) (eqb (m * up e * down d) 0) h in
    let same = eqb-true (m * up e * down d) (n * up d * down e) parts.0 in
    let none = eqb-true (m * up e * down d) 0 parts.1 in
    let some : 0 < n * up d * down e = mul-pos (mul-pos (ltb→lt 0 n p) (up_pos d)) (down_pos e) in
    absurd (omega arith)
equal_positive (fin false m e) (fin false n d) p h =
    let parts = and_parts (eqb (m * up e * down d) (n * up d * down e)) true h in
    let same = eqb-true (m * up e * down d) (n * up d * down e) parts.0 in
    let some : 0 < n * up d * down e = mul-pos (mul-pos (ltb→lt 0 n p) (up_pos d)) (down_pos e) in
    let more : 0 < m * up e * down d = omega arith in
    let q : T (positive (fin false m e)) = lt→ltb 0 m (first_pos m (up e) (first_pos (m * up e) (down d) more)) in
    let under : n * up d * down e ≤ m * up e * down d = omega arith in
    (q, cross→le (fin false n d) (fin false m e) p q under)

-- a quotient by a power of two is a product with its inverse
pub by_power : (k : ℕ) (x : Float) → T (positive x) → div binary64 x (fin false 1 (pos (suc k))) ≡ mul binary64 x (fin false 1 (negsuc k))
unfolding div mul
by_power k nan p = absurd p
by_power k (inf s) p = absurd p
by_power k (fin true m e) p = absurd p
by_power k (fin false m e) p =
    let some : 0 < 1 * 2 ^ suc k = rw (one-mul (2 ^ suc k)) (pow_pos (suc k)) in
    let turned : down e * 2 ^ suc k ≡ 1 * 2 ^ suc k * down e = mul_comm (down e) (2 ^ suc k) ∙ ap (λ (z : ℕ). z * down e) (sym (one-mul (2 ^ suc k))) in
    round_same binary64 false (m * up e * 1) (1 * 2 ^ suc k * down e) (m * up e * 1) (down e * 2 ^ suc k)
    (mul-pos some (down_pos e)) (mul-pos (down_pos e) (pow_pos (suc k))) (ap (λ (z : ℕ). m * up e * 1 * z) turned)

-- ---- a coupling in its range
module _ (g : Float) (right : coupling_right g ≡ true) where
  pub above_lowest : T (le (fin false 1 (negsuc 31)) g)
  unfolding coupling_right
  above_lowest = rw lowest_is at (holds (le (div binary64 (float_of 1) (float_of (2 ^ 32))) g) (and_parts (le (div binary64 (float_of 1) (float_of (2 ^ 32))) g) (le g (float_of (2 ^ 32))) right).0)

  pub below_highest : T (le g (fin false 1 (pos 32)))
  unfolding coupling_right
  below_highest = rw highest_is at (holds (le g (float_of (2 ^ 32))) (and_parts (le (div binary64 (float_of 1) (float_of (2 ^ 32))) g) (le g (float_of (2 ^ 32))) right).1)

  pub coupling_positive : T (positive g)
  coupling_positive = between (fin false 1 (negsuc 31)) g (fin false 1 (pos 32)) tt tt above_lowest below_highest

-- a float above 0 that another is not below
pub record NotBelow (low x : Float) : Type 0 where
  pub positive : T (positive x)
  pub not_below : T (le low x)

-- a record that is right has the factor of its coupling
pub electric_low : (p own : KSParams) (low : Float) → T (positive low) → NotBelow low own.electric → params_right p own ≡ true → NotBelow low p.electric
unfolding params_right
electric_low p own low some h right =
    let parts = and_parts (coupling_right p.g_squared) (eq p.electric own.electric && eq p.magnetic own.magnetic) right in
    let same = (and_parts (eq p.electric own.electric) (eq p.magnetic own.magnetic) parts.1).0 in
    let positives = equal_positive p.electric own.electric h.positive same in
    record {
      positive = positives.0;
      not_below = le_trans_positive low own.electric p.electric some h.positive positives.0 h.not_below positives.1;
    }

-- ---- the products
nothing : (a d : ℕ) → a * 0 * 1 ≡ 0 * (d * 1)
nothing a d = omega arith

zero_left : kept (round binary64 false 0 1) ≡ false
unfolding kept lt float_of of_int round
zero_left = refl

none_kept : (x : Float) → T (positive x) → kept (mul binary64 x (fin false 0 (pos 0))) ≡ false
unfolding mul
none_kept nan h = absurd h
none_kept (inf s) h = absurd h
none_kept (fin true m e) h = absurd h
none_kept (fin false m e) h =
    let one : 0 < 1 = omega arith in
    ap kept (round_same binary64 false (m * up e * 0) (down e * 1) 0 1 (mul-pos (down_pos e) one) one (nothing (m * up e) (down e))) ∙ zero_left

-- with 1 to 2^26, and with 0
module _ (low x : Float) (some : T (positive low)) (once : T (positive (mul binary64 low (fin false 1 (pos 0))))) (h : NotBelow low x) where
  pub energy_kept : (k : ℕ) → 1 ≤ k → k ≤ 2 ^ 26 → kept (energy x k) ≡ true
  energy_kept k more few =
      above_kept (energy x k)
      (above_of_le (mul binary64 low (fin false 1 (pos 0))) (energy x k) once
      (mul_mono binary64 low x (fin false 1 (pos 0)) (float_of k) some h.positive tt (whole_positive k more few) h.not_below (whole_above k more)))

  pub no_energy : kept (energy x 0) ≡ false
  no_energy = rw zero_is (none_kept x h.positive)
