-- A cycle added again, or taken off.
use Prim.Native.Nat.{ℕ, ◌+◌}
use mathlib.Core.List.{List, [], ◌∷◌}
use mathlib.Core.Path.{◌≡◌, refl, ◌∙◌}
use native.Mathlib.Omega.{arith}
use lib.IntN.{ℤ, pos, neg_ℤ, ◌+ℤ◌, ◌*ℤ◌, +ℤ_invl, +ℤ_invr}
use Rattle.mathematics.proofs.Integers.{positive, negative, linear, the, ◌⊞◌, sum_times}
use Rattle.cycles.specs.Cycles.{with_cycle}
use Rattle.walker.proofs.Walk.{added_none}

added_sum : (s : List ℤ) (a b : ℤ) (y : List ℤ) → with_cycle (with_cycle s a y) b y ≡ with_cycle s (a +ℤ b) y
unfolding with_cycle positive negative
added_sum [] a b y = refl
added_sum (x ∷ s) a b [] = refl
added_sum (x ∷ s) a b (v ∷ y) =
    let e : (x +ℤ a *ℤ v) +ℤ b *ℤ v ≡ x +ℤ (a +ℤ b) *ℤ v = rw (sum_times a b v) (linear (the x ⊞ the (a *ℤ v) ⊞ the (b *ℤ v)) (the x ⊞ (the (a *ℤ v) ⊞ the (b *ℤ v))) (omega arith)) in
    rw (e, added_sum s a b y)

pub once_more : (s y : List ℤ) (i : ℕ) → with_cycle (with_cycle s (pos i) y) (pos 1) y ≡ with_cycle s (pos (i + 1)) y
once_more s y i = added_sum s (pos i) (pos 1) y

-- what was added is taken off, and what was taken off is added
module _ (s y : List ℤ) (t : ℤ) where
  pub taken_off : with_cycle (with_cycle s t y) (neg_ℤ t) y ≡ s
  taken_off = added_sum s t (neg_ℤ t) y ∙ rw (+ℤ_invr t) (added_none s y)

  pub put_back : with_cycle (with_cycle s (neg_ℤ t) y) t y ≡ s
  put_back = added_sum s (neg_ℤ t) t y ∙ rw (+ℤ_invl t) (added_none s y)

-- two cycles are added in either order
pub either_order : (s : List ℤ) (a b : ℤ) (y z : List ℤ) → with_cycle (with_cycle s a y) b z ≡ with_cycle (with_cycle s b z) a y
unfolding with_cycle positive negative
either_order [] a b y z = refl
either_order (x ∷ s) a b [] [] = refl
either_order (x ∷ s) a b [] (w ∷ z) = refl
either_order (x ∷ s) a b (v ∷ y) [] = refl
either_order (x ∷ s) a b (v ∷ y) (w ∷ z) =
    let e : (x +ℤ a *ℤ v) +ℤ b *ℤ w ≡ (x +ℤ b *ℤ w) +ℤ a *ℤ v = linear (the x ⊞ the (a *ℤ v) ⊞ the (b *ℤ w)) (the x ⊞ the (b *ℤ w) ⊞ the (a *ℤ v)) (omega arith) in
    rw (e, either_order s a b y z)
