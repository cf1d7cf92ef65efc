-- A sign added to a value a number of times, in the machine.
use Prim.Native.Nat.{◌≤◌, ◌^◌}
use mathlib.Core.Path.{◌≡◌}
use native.Mathlib.Omega.{arith}
use lib.IntN.{ℤ, ◌+ℤ◌, ◌*ℤ◌, nat_abs}
use mir.Syntax.{w32}
use mir.Val.{SFits, to_z, of_z}
use Rattle.mathematics.proofs.Signed.{size_sum, size_sign, size_fits, small_back}

module _ (x t s : ℤ) (small : nat_abs x ≤ 2 ^ 24) (few : nat_abs t ≤ 2 ^ 24) (sign : nat_abs s ≤ 1) where
  product_fits : nat_abs (t *ℤ s) ≤ 2 ^ 24
  product_fits = omega (arith, size_sign t s sign)

  pub product_back : to_z w32 (of_z w32 (t *ℤ s)) ≡ t *ℤ s
  product_back = small_back (t *ℤ s) (omega (arith, product_fits))

  pub sum_small : SFits w32 (x +ℤ t *ℤ s)
  sum_small = size_fits w32 (x +ℤ t *ℤ s) (omega (arith, product_fits, size_sum x (t *ℤ s)))
