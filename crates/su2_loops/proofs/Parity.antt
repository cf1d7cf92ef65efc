-- The slide's line is -1 exactly where the count is odd, else 1. As a float it is the sign in the sum of the loop.
use Prim.Native.Nat.{ℕ, zero, suc, ◌%◌, ◌<◌}
use mathlib.Core.Bool.{cond}
use mathlib.Core.Logic.{◌⊎◌, inl, inr, ⊎_elim}
use mathlib.Core.Path.{◌≡◌, refl, sym, ap, ◌∙◌}
use native.Mathlib.Omega.{arith}
use lib.Dec.{eqb}
use lib.IntN.{ℤ, pos, negsuc, pos-ne-negsuc}
use lib.Ieee.{binary64, neg, of_int, le}
use Rattle.matrices.specs.Coupling.{float_of}
use Rattle.su2_loops.specs.Loop.{sign_of}
use Rattle.su2_loops.specs.Parity.{parity_sign, ExactlyWhereOdd, ParitySign}

pub remainder_is : (n : ℕ) → (n % 2 ≡ 0) ⊎ (n % 2 ≡ 1)
remainder_is n = go (n % 2) (omega arith)
  where
    go : (k : ℕ) → k < 2 → (k ≡ 0) ⊎ (k ≡ 1)
    go zero h = inl refl
    go (suc zero) h = inr refl
    go (suc (suc k)) h = absurd (omega arith)

-- of two values that differ, the one that the remainder chooses
exactly : {A : Type 0} (minus plus x : A) (n : ℕ) → (plus ≡ minus → ⊥) → x ≡ cond (eqb (n % 2) 0) plus minus → ExactlyWhereOdd n minus plus x
exactly {A} minus plus x n differ e = go (remainder_is n)
  where
    go : (n % 2 ≡ 0) ⊎ (n % 2 ≡ 1) → ExactlyWhereOdd n minus plus x
    go (inl h) = let is : x ≡ plus = rw h at e in record { odd = λ o. absurd (omega (arith, h, o)); only_odd = λ o. absurd (differ (sym is ∙ o)); not_odd = λ o. is }
    go (inr h) = let is : x ≡ minus = rw h at e in record { odd = λ o. is; only_odd = λ o. h; not_odd = λ o. absurd (o h) }

-- ---- as a whole number
whole_is : (n : ℕ) → parity_sign n ≡ cond (eqb (n % 2) 0) (pos 1) (negsuc 0)
unfolding parity_sign
whole_is n = ⊎_elim (λ h. rw h refl) (λ h. rw h refl) (remainder_is n)

-- ---- as a float
float_is : (n : ℕ) → of_int binary64 (parity_sign n) ≡ sign_of n
unfolding parity_sign sign_of float_of of_int neg
float_is n = ⊎_elim (λ h. rw h refl) (λ h. rw h refl) (remainder_is n)

signs_differ : float_of 1 ≡ neg (float_of 1) → ⊥
unfolding float_of of_int neg le
signs_differ h = let z : ◌≡◌ {A = ℕ} 1 0 = ap (λ x. cond (le (float_of 0) x) 1 0) h in omega arith

pub parity_sign_is : (n : ℕ) → ParitySign n
parity_sign_is n = record { whole = exactly (negsuc 0) (pos 1) (parity_sign n) n (pos-ne-negsuc 1 0) (whole_is n); float = float_is n }

-- both promises of `sign_of`, where the whole number that it works out is the slide's line
pub sign_told : (n : ℕ) (z : ℤ)
    → z ≡ parity_sign n → (of_int binary64 z ≡ of_int binary64 (parity_sign n)) × ExactlyWhereOdd n (neg (float_of 1)) (float_of 1) (of_int binary64 z)
unfolding sign_of
sign_told n z e = (ap (of_int binary64) e, exactly (neg (float_of 1)) (float_of 1) (of_int binary64 z) n signs_differ (ap (of_int binary64) e ∙ float_is n))
