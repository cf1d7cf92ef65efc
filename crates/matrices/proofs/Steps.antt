-- A sum in steps of which one at most is taken.
use Prim.Native.Nat.{ℕ, zero, suc, ◌<◌}
use mathlib.Core.Bool.{Bool, true, false, cond}
use mathlib.Core.Path.{◌≡◌, refl, ap, ◌∙◌}
use native.Mathlib.Omega.{arith}
use native.Mathlib.Decide.{ℕ_discrete}

module _ {A : Type 0} (sum : ℕ → A) (taken : ℕ → Bool) (step : ℕ → A → A) (next : (t : ℕ) → sum (suc t) ≡ cond (taken t) (step t (sum t)) (sum t)) where
  pub none_taken : (n : ℕ) → ((t : ℕ) → t < n → taken t ≡ false) → sum n ≡ sum 0
  none_taken zero h = refl
  none_taken (suc n) h = next n ∙ rw (h n (omega arith)) (none_taken n (λ t l. h t (omega arith)))

  pub one_taken : (n t : ℕ) → t < n → taken t ≡ true → ((t' : ℕ) → t' < n → taken t' ≡ true → t' ≡ t) → sum n ≡ step t (sum 0)
  one_taken zero t l h only = absurd (omega arith)
  one_taken (suc n) t l h only = next n ∙ go (ℕ_discrete t n) (λ l. one_taken n t l h (λ t' k. only t' (omega arith)))
    where
      other : (t' : ℕ) → t' < suc n → (t' ≡ t → ⊥) → taken t' ≡ false
      other t' k apart = case (taken t') refl
        where
          case : (b : Bool) → taken t' ≡ b → b ≡ false
          case true e = absurd (apart (only t' k e))
          case false e = refl

      go : Dec (t ≡ n) → (t < n → sum n ≡ step t (sum 0)) → cond (taken n) (step n (sum n)) (sum n) ≡ step t (sum 0)
      go (yes e) ih = rw (← e, h) (ap (step t) (none_taken t (λ t' k. other t' (omega arith) (λ z. omega arith))))
      go (no e) ih = rw (other n (omega arith) (λ z. omega arith)) (ih (omega arith))
