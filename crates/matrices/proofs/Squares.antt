-- Sums of squares: how large a square is, and one value more.
use Prim.Native.Nat.{ℕ, ◌+◌, ◌*◌, ◌^◌, ◌≤◌}
use mathlib.Core.List.{List, [], ◌∷◌, ◌++◌}
use mathlib.Core.Path.{◌≡◌, refl, sym, ap, ◌∙◌}
use native.Mathlib.Nat.{mul-le-mul, add_assoc}
use native.Mathlib.Omega.{arith}
use lib.Dec.{T, le→leb}
use lib.IntN.{ℤ, pos, negsuc, nat_abs, ◌*ℤ◌}
use lib.Ieee.{binary64, in_float}
use mir.Syntax.{w32}
use mir.Val.{to_z, of_z}
use Rattle.mathematics.proofs.Signed.{small_back}
use Rattle.matrices.specs.Squares.{squares}

square_is : (x : ℤ) → x *ℤ x ≡ pos (nat_abs x * nat_abs x)
square_is (pos n) = refl
square_is (negsuc n) = refl

pub square_small : (x : ℤ) → nat_abs x ≤ 1000 → nat_abs x * nat_abs x ≤ 1000000
square_small x h = mul-le-mul h h

-- the square in the machine
module _ (x : ℤ) (h : nat_abs x ≤ 1000) where
  pub square_made : to_z w32 (of_z w32 x) *ℤ to_z w32 (of_z w32 x) ≡ pos (nat_abs x * nat_abs x)
  square_made = rw (small_back x (omega arith)) (square_is x)

  pub square_back : to_z w32 (of_z w32 (to_z w32 (of_z w32 x) *ℤ to_z w32 (of_z w32 x))) ≡ pos (nat_abs x * nat_abs x)
  square_back = rw square_made (small_back (pos (nat_abs x * nat_abs x)) (omega (arith, square_small x h)))

pub squares_last : (s : List ℤ) (x : ℤ) → squares (s ++ (x ∷ [])) ≡ squares s + nat_abs x * nat_abs x
unfolding squares
squares_last [] x = omega arith
squares_last (y ∷ s) x = ap (λ (k : ℕ). nat_abs y * nat_abs y + k) (squares_last s x) ∙ sym (add_assoc (nat_abs y * nat_abs y) (squares s) (nat_abs x * nat_abs x))

-- a whole number that a float holds
pub whole_held : (n : ℕ) → n ≤ 2 ^ 53 → T (in_float binary64 (pos n))
unfolding in_float
whole_held n h = le→leb n (2 ^ 53) h
