-- A state whose values are all 0.
use Prim.Native.Nat.{ℕ, zero, suc, ◌+◌, ◌*◌, ◌<◌, ◌≤◌, ◌^◌}
use mathlib.Core.List.{List, [], ◌∷◌}
use mathlib.Core.Bool.{Bool, true, false, not, cond, ◌||◌}
use mathlib.Core.Path.{◌≡◌, refl}
use native.Mathlib.Omega.{arith}
use native.Mathlib.Decide.{ℕ_discrete}
use borrow.Author.Tests.{ne_eqb, eq-eqb}
use lib.Dec.{eqb}
use lib.IntN.{ℤ, pos, negsuc, nat_abs}
use lib.ListN.{get_or, length}
use mir.Syntax.{w32}
use mir.Val.{SFits, of_z, bool_byte}
use Rattle.std.specs.List.{list_any}
use Rattle.mathematics.proofs.Signed.{size_fits}
use Rattle.matrices.specs.Squares.{squares}

pub not_counted : (b : Bool) → ◌≡◌ {A = ℕ} (cond (not b) 1 0) (cond b 0 1)
not_counted true = refl
not_counted false = refl

-- and as the number that the code makes of it
pub number_of_not : (b : Bool) → (bool_byte (not b) ≡ cond b 0 1) × (bool_byte (not b) ≤ 1)
number_of_not true = (refl, omega arith)
number_of_not false = (refl, omega arith)

-- a value that is not 0 has a square
some_square : (x : ℤ) → (of_z w32 x ≡ 0 → ⊥) → 1 ≤ nat_abs x * nat_abs x
some_square (pos zero) h = absurd (h refl)
some_square (pos (suc n)) h = omega arith
some_square (negsuc n) h = omega arith

none_square : (x : ℤ) → SFits w32 x → of_z w32 x ≡ 0 → nat_abs x * nat_abs x ≡ 0
none_square (pos n) f h = let none : n ≡ 0 = h in rw none refl
none_square (negsuc n) f h = let small : n < 2 ^ 31 = f.sfits in absurd (omega (arith, small, h))

-- some value is not 0 just where there are squares
pub some_is : (s : List ℤ) → ((e : ℕ) → e < length s → nat_abs (get_or s e (pos 0)) ≤ 1000) → list_any (λ x. not (eqb (of_z w32 x) 0)) s ≡ not (eqb (squares s) 0)
unfolding squares
some_is [] small = refl
some_is (x ∷ s) small = go (ℕ_discrete (of_z w32 x) 0) (some_is s (λ e h. small (suc e) (omega arith)))
  where
    go : Dec (of_z w32 x ≡ 0) → list_any (λ x. not (eqb (of_z w32 x) 0)) s ≡ not (eqb (squares s) 0)
        → not (eqb (of_z w32 x) 0) || list_any (λ x. not (eqb (of_z w32 x) 0)) s ≡ not (eqb (nat_abs x * nat_abs x + squares s) 0)
    go (yes h) rest =
        let f : nat_abs x ≤ 1000 = small 0 (omega arith) in
        let none : nat_abs x * nat_abs x + squares s ≡ squares s = omega (arith, none_square x (size_fits w32 x (omega arith)) h) in
        rw (eq-eqb (of_z w32 x) 0 h, none) rest
    go (no h) rest = rw (ne_eqb (of_z w32 x) 0 h, ne_eqb (nat_abs x * nat_abs x + squares s) 0 (λ n. omega (arith, n, some_square x h))) refl
