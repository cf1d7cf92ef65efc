-- The sign of a count by whole numbers, as on the lecture slide that explains the Z2 loop.
use Rattle.std.specs.Prelude.{ℕ, ◌%◌, ◌≡◌, ℤ, pos, negsuc, ◌-ℤ◌, ◌*ℤ◌}
use Rattle.std.specs.Float.{binary64}
use Rattle.std.specs.Float.Ieee.{of_int}
use Rattle.su2_loops.specs.Loop.{sign_of}

-- the slide's line: 1 minus twice the remainder of the count by two
unfoldable pub parity_sign : ℕ → ℤ
parity_sign n = pos 1 -ℤ (pos 2 *ℤ pos (n % 2))

-- x is `minus` exactly where n is odd, else `plus`
pub record ExactlyWhereOdd {A : Type 0} (n : ℕ) (minus plus x : A) : Type 0 where
  pub odd : n % 2 ≡ 1 → x ≡ minus
  pub only_odd : x ≡ minus → n % 2 ≡ 1
  pub not_odd : (n % 2 ≡ 1 → ⊥) → x ≡ plus

-- for theorems: what the slide's line is worth
pub record ParitySign (n : ℕ) : Type 0 where
  -- -1 exactly where the count is odd, else 1
  pub whole : ExactlyWhereOdd n (negsuc 0) (pos 1) (parity_sign n)
  -- as a float, the sign in the sum of the loop
  pub float : of_int binary64 (parity_sign n) ≡ sign_of n
