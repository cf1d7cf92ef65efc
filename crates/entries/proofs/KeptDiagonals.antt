-- The diagonal of a row is kept exactly where a value of its state is not 0: the electric factor of a coupling in its range is above 0.
use Prim.{tt}
use Prim.Native.Nat.{ℕ, zero, suc, ◌^◌, ◌≤◌}
use mathlib.Core.Bool.{true, false, ◌&&◌, cond}
use mathlib.Core.Path.{◌≡◌, refl}
use native.Mathlib.Omega.{arith}
use borrow.Author.Tests.{ne_eqb}
use lib.Dec.{T, eqb}
use lib.IntN.{pos, negsuc}
use lib.Ieee.{Float, binary64, fin, round, mul, le, lt, eq, of_int}
use lib.Ieee.Positive.{between, mul_mono}
use Rattle.mathematics.proofs.Tests.{and_parts}
use Rattle.matrices.specs.declared.coupling.KSParams.{KSParams}
use Rattle.matrices.specs.Coupling.{float_of, coupling_right, u1_params, params_right, u1_right}
use Rattle.matrices.specs.Squares.{energy}
use Rattle.rows.specs.Row.{kept}
use Rattle.rows.proofs.KeptDiagonals.{NotBelow, one_is, by_power, above_lowest, below_highest, coupling_positive, electric_low, energy_kept, no_energy}

two_is : float_of 2 ≡ fin false 1 (pos 1)
unfolding float_of of_int round
two_is = refl

-- half the lowest coupling
abbrev pub least : Float
least = fin false 1 (negsuc 32)

module _ (g : Float) (right : coupling_right g ≡ true) where
  abbrev factor : Float
  factor = mul binary64 g (fin false 1 (negsuc 0))

  factor_low : T (le least factor)
  unfolding mul round le lt eq
  factor_low = mul_mono binary64 (fin false 1 (negsuc 31)) g (fin false 1 (negsuc 0)) (fin false 1 (negsuc 0)) tt (coupling_positive g right) tt tt (above_lowest g right) tt

  factor_high : T (le factor (fin false 1 (pos 31)))
  unfolding mul round le lt eq
  factor_high = mul_mono binary64 g (fin false 1 (pos 32)) (fin false 1 (negsuc 0)) (fin false 1 (negsuc 0)) (coupling_positive g right) tt tt tt (below_highest g right) tt

  own_factor : (u1_params g).electric ≡ factor
  unfolding u1_params
  own_factor = rw two_is (by_power 0 g (coupling_positive g right))

  own_low : NotBelow least (u1_params g).electric
  own_low = rw own_factor (record { positive = between least factor (fin false 1 (pos 31)) tt tt factor_low factor_high; not_below = factor_low })

-- the electric factor of a coupling that is right
pub right_low : (p : KSParams) → u1_right p ≡ true → NotBelow least p.electric
unfolding u1_right params_right
right_low p right =
    let own = u1_params p.g_squared in
    let coupling = (and_parts (coupling_right p.g_squared) (eq p.electric own.electric && eq p.magnetic own.magnetic) right).0 in
    electric_low p own least tt (own_low p.g_squared coupling) right

-- and 1
pub one_low : NotBelow least (float_of 1)
unfolding le lt eq
one_low = rw one_is (record { positive = tt; not_below = tt })

pub diagonal_told : (x : Float) → NotBelow least x → (k : ℕ) → k ≤ 2 ^ 26 → ◌≡◌ {A = ℕ} (cond (kept (energy x k)) 1 0) (cond (eqb k 0) 0 1)
unfolding mul round
diagonal_told x h zero few = rw (no_energy least x tt tt h)
diagonal_told x h (suc k) few = rw (energy_kept least x tt tt h (suc k) (omega arith) few, ne_eqb (suc k) 0 (λ z. omega arith))
