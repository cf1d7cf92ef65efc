-- The search by numbers, place by place.
use Prim.Native.Nat.{ℕ, zero, suc, ◌+◌, ◌-◌, ◌<◌, ◌≤◌}
use mathlib.Core.Path.{◌≡◌, refl, ◌∙◌}
use native.Mathlib.Omega.{arith}
use borrow.Author.Tests.{lt-ltb, le-ltb}
use Rattle.gauss_law.specs.Listing.{limit}
use Rattle.moves.specs.Numbers.{sought}

module _ (numbers : ℕ → ℕ) (wanted : ℕ) where
  pub sought_next : (p n : ℕ) → p < n → numbers p + limit < wanted → sought numbers wanted p (n - p) ≡ sought numbers wanted (p + 1) (n - (p + 1))
  unfolding sought
  sought_next p n h less =
      let e : n - p ≡ suc (n - (p + 1)) = omega arith in
      rw (e, lt-ltb (numbers p + limit) wanted less)

  pub sought_here : (p n : ℕ) → p < n → wanted ≤ numbers p + limit → sought numbers wanted p (n - p) ≡ p
  unfolding sought
  sought_here p n h less =
      let e : n - p ≡ suc (n - (p + 1)) = omega arith in
      rw (e, le-ltb (numbers p + limit) wanted less)

  pub sought_end : (p n : ℕ) → n ≤ p → sought numbers wanted p (n - p) ≡ p
  unfolding sought
  sought_end p n h = let e : n - p ≡ zero = omega arith in rw e refl

  -- the first place whose number fits, where all before it have smaller ones
  pub sought_found : (from p n : ℕ) → from ≤ p → p < n → numbers p + limit ≡ wanted → ((j : ℕ) → j < p → numbers j + limit < wanted) → sought numbers wanted from (n - from) ≡ p
  sought_found from p n h below fits less = go (p - from) from (omega arith)
    where
      go : (d from : ℕ) → from + d ≡ p → sought numbers wanted from (n - from) ≡ p
      go zero from e =
          let same : from ≡ p = omega arith in
          rw same (sought_here p n below (omega arith))
      go (suc d) from e = sought_next from n (omega arith) (less from (omega arith)) ∙ go d (from + 1) (omega arith)
