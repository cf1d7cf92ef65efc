-- Every coupling that is made passes the test of its own mode.
use Prim.{tt}
use Prim.Native.Nat.{ℕ, zero, suc, ◌+◌, ◌-◌, ◌*◌, ◌/◌, ◌%◌, ◌^◌, compare}
use mathlib.Core.Bool.{Bool, true, false, not, ◌&&◌, cond, false≢true}
use mathlib.Core.Path.{◌≡◌, refl, ap}
use borrow.Author.Tests.{eq-eqb}
use lib.Dec.{eqb, ltb}
use lib.IntN.{ℤ, pos, negsuc}
use lib.Ieee.{Float, nan, inf, fin, binary64, low, emax, prec, unlike, size, nearest, odd, units, round, neg, mul, div, eq, le, lt, of_int, up, down}
use Rattle.mathematics.specs.Refusals.{value, refused}
use Rattle.mathematics.specs.Calls.{Answered, none_lent}
use Rattle.mathematics.proofs.Calls.{none, here, past, refuses, ends}
use Rattle.matrices.specs.declared.coupling.KSParams.{KSParams}
use Rattle.matrices.specs.Coupling.{float_of, coupling_right, coupling_call, u1_params, su2_params, params_right, u1_right, su2_right}

-- ---- a number is equal to itself
number : Float → Bool
number nan = false
number (inf s) = true
number (fin s m e) = true

equal_to_itself : (x : Float) → number x ≡ true → eq x x ≡ true
unfolding number eq
equal_to_itself nan h = h
equal_to_itself (inf true) h = refl
equal_to_itself (inf false) h = refl
equal_to_itself (fin true m e) h = rw (eq-eqb (m * up e * down e) (m * up e * down e) refl)
equal_to_itself (fin false m e) h = rw (eq-eqb (m * up e * down e) (m * up e * down e) refl)

odd_number : (d : ℕ) (s : Bool) (q k l : ℕ) → number (odd d s q k l) ≡ true
unfolding number odd
odd_number d s zero k l = refl
odd_number d s (suc q) k l = refl

units_number : (s : Bool) (q k : ℕ) → number (units binary64 s q k) ≡ true
unfolding number units
units_number s q k = go (ltb (q * 2 ^ k) (2 ^ (low binary64 + suc (emax binary64))))
  where
    go : (b : Bool) → number (cond b (odd (suc (prec binary64)) s q k (low binary64)) (inf s)) ≡ true
    go true = odd_number (suc (prec binary64)) s q k (low binary64)
    go false = refl

round_number : (s : Bool) (a b : ℕ) → number (round binary64 s a b) ≡ true
unfolding round
round_number s a b =
    let n = a * 2 ^ low binary64 in
    let k = size (n / b) - prec binary64 in
    let u = b * 2 ^ k in
    units_number s (nearest (n / u) (compare (n % u * 2) u)) k

-- a number by a power of two, and a power of two by a finite number
over_number : (x : Float) (t : Bool) (d : ℤ) → number x ≡ true → number (div binary64 x (fin t 1 d)) ≡ true
unfolding number div
over_number nan t d h = h
over_number (inf s) t d h = refl
over_number (fin s m e) t d h = round_number (unlike s t) (m * up e * down d) (1 * up d * down e)

under_number : (s : Bool) (e : ℤ) (t : Bool) (n : ℕ) (d : ℤ) → number (div binary64 (fin s 1 e) (fin t n d)) ≡ true
unfolding number div
under_number s e t n d = go (eqb n 0)
  where
    go : (b : Bool) → number (cond b (inf (unlike s t)) (round binary64 (unlike s t) (1 * up e * down d) (n * up d * down e))) ≡ true
    go true = refl
    go false = round_number (unlike s t) (1 * up e * down d) (n * up d * down e)

-- ---- a record that is made is right in its mode
right_own : (p : KSParams) → coupling_right p.g_squared ≡ true → number p.electric ≡ true → number p.magnetic ≡ true → params_right p p ≡ true
unfolding params_right
right_own p h e m = rw (h, equal_to_itself p.electric e, equal_to_itself p.magnetic m)

-- g² is finite where it is in its range
refused_nan : coupling_right nan ≡ true → ⊥
unfolding coupling_right float_of of_int round div le lt eq
refused_nan h = false≢true h

refused_inf : (s : Bool) → coupling_right (inf s) ≡ true → ⊥
unfolding coupling_right float_of of_int round div le lt eq
refused_inf true h = false≢true h
refused_inf false h = false≢true h

pub u1_made : (g : Float) → coupling_right g ≡ true → u1_right (u1_params g) ≡ true
unfolding number u1_right u1_params float_of of_int round neg
u1_made nan h = absurd (refused_nan h)
u1_made (inf s) h = absurd (refused_inf s h)
u1_made (fin s m e) h = right_own (u1_params (fin s m e)) h (over_number (fin s m e) false (pos 1) refl) (under_number true (pos 0) s m e)

half : neg (div binary64 (float_of 1) (float_of 2)) ≡ fin true 1 (negsuc 0)
unfolding float_of of_int round div neg
half = refl

half_number : (s : Bool) (m : ℕ) (e : ℤ) → number (div binary64 (neg (div binary64 (float_of 1) (float_of 2))) (fin s m e)) ≡ true
half_number s m e = rw half (under_number true (negsuc 0) s m e)

pub su2_made : (g : Float) → coupling_right g ≡ true → su2_right (su2_params g) ≡ true
unfolding number su2_right su2_params float_of of_int round neg mul
su2_made nan h = absurd (refused_nan h)
su2_made (inf s) h = absurd (refused_inf s h)
su2_made (fin s m e) h =
    right_own (su2_params (fin s m e)) h
    (over_number (mul binary64 (float_of 3) (fin s m e)) false (pos 3) (round_number (unlike false s) (3 * 1 * (m * up e)) (1 * down e)))
    (half_number s m e)

-- ---- a record of a coupling in its range is compared with the one that is made of its g²
in_range_number : (g : Float) → coupling_right g ≡ true → number g ≡ true
unfolding number
in_range_number nan h = absurd (refused_nan h)
in_range_number (inf s) h = refl
in_range_number (fin s m e) h = refl

pub own_tests : (p own : KSParams) → own.g_squared ≡ p.g_squared
    → (coupling_right p.g_squared && (eq p.g_squared own.g_squared && (eq p.electric own.electric && eq p.magnetic own.magnetic))) ≡ params_right p own
unfolding params_right
own_tests p own same = rw same (go (coupling_right p.g_squared) refl)
  where
    go : (b : Bool) → coupling_right p.g_squared ≡ b
        → (b && (eq p.g_squared p.g_squared && (eq p.electric own.electric && eq p.magnetic own.magnetic))) ≡ (b && (eq p.electric own.electric && eq p.magnetic own.magnetic))
    go true h = rw (equal_to_itself p.g_squared (in_range_number p.g_squared h))
    go false h = refl

-- ---- the call
module _ (p : KSParams) where
  pub coupling_refused : coupling_right p.g_squared ≡ false → Answered (coupling_call p.g_squared p) (refused 14) none_lent
  unfolding coupling_call
  coupling_refused h = refuses _ (here (ap not h)) refl

  pub coupling_told : coupling_right p.g_squared ≡ true → Answered (coupling_call p.g_squared p) (value p) none_lent
  unfolding coupling_call
  coupling_told h = ends _ (past (ap not h) none) refl refl tt
