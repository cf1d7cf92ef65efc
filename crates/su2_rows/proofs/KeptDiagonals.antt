-- The diagonal of a row is kept exactly where its state has an edge: the electric factor of a coupling in its range is above 0.
use Prim.{tt}
use Prim.Native.Nat.{ℕ, ◌^◌, ◌≤◌}
use mathlib.Core.Bool.{true, false, ◌&&◌}
use mathlib.Core.Path.{◌≡◌, refl}
use native.Mathlib.Omega.{arith}
use lib.Dec.{T}
use lib.IntN.{pos, negsuc}
use lib.Ieee.{Float, binary64, fin, round, mul, le, lt, eq, of_int}
use lib.Ieee.Positive.{positive, between, mul_mono}
use Rattle.mathematics.proofs.Tests.{and_parts}
use Rattle.matrices.specs.declared.coupling.KSParams.{KSParams}
use Rattle.matrices.specs.Coupling.{float_of, coupling_right, su2_params, params_right, su2_right}
use Rattle.matrices.specs.Squares.{energy}
use Rattle.rows.specs.Row.{kept}
use Rattle.rows.proofs.KeptDiagonals as diagonals

three_is : float_of 3 ≡ fin false 3 (pos 0)
unfolding float_of of_int round
three_is = refl

eight_is : float_of 8 ≡ fin false 1 (pos 3)
unfolding float_of of_int round
eight_is = refl

-- three eighths of the lowest coupling
abbrev least : Float
least = fin false 3 (negsuc 34)

module _ (g : Float) (right : coupling_right g ≡ true) where
  -- 3 g²
  abbrev thrice : Float
  thrice = mul binary64 (fin false 3 (pos 0)) g

  thrice_low : T (le (fin false 3 (negsuc 31)) thrice)
  unfolding mul round le lt eq
  thrice_low = mul_mono binary64 (fin false 3 (pos 0)) (fin false 3 (pos 0)) (fin false 1 (negsuc 31)) g tt tt tt (diagonals.coupling_positive g right) tt (diagonals.above_lowest g right)

  thrice_high : T (le thrice (fin false 3 (pos 32)))
  unfolding mul round le lt eq
  thrice_high = mul_mono binary64 (fin false 3 (pos 0)) (fin false 3 (pos 0)) g (fin false 1 (pos 32)) tt tt (diagonals.coupling_positive g right) tt tt (diagonals.below_highest g right)

  thrice_positive : T (positive thrice)
  thrice_positive = between (fin false 3 (negsuc 31)) thrice (fin false 3 (pos 32)) tt tt thrice_low thrice_high

  -- and an eighth of it
  abbrev factor : Float
  factor = mul binary64 thrice (fin false 1 (negsuc 2))

  factor_low : T (le least factor)
  unfolding mul round le lt eq
  factor_low = mul_mono binary64 (fin false 3 (negsuc 31)) thrice (fin false 1 (negsuc 2)) (fin false 1 (negsuc 2)) tt thrice_positive tt tt thrice_low tt

  factor_high : T (le factor (fin false 3 (pos 29)))
  unfolding mul round le lt eq
  factor_high = mul_mono binary64 thrice (fin false 3 (pos 32)) (fin false 1 (negsuc 2)) (fin false 1 (negsuc 2)) thrice_positive tt tt tt thrice_high tt

  own_factor : (su2_params g).electric ≡ factor
  unfolding su2_params
  own_factor = rw (three_is, eight_is) (diagonals.by_power 2 thrice thrice_positive)

  own_low : diagonals.NotBelow least (su2_params g).electric
  own_low = rw own_factor (record { positive = between least factor (fin false 3 (pos 29)) tt tt factor_low factor_high; not_below = factor_low })

module _ (p : KSParams) (right : su2_right p ≡ true) where
  electric_low : diagonals.NotBelow least p.electric
  unfolding su2_right params_right
  electric_low =
      let own = su2_params p.g_squared in
      let coupling = (and_parts (coupling_right p.g_squared) (eq p.electric own.electric && eq p.magnetic own.magnetic) right).0 in
      diagonals.electric_low p own least tt (own_low p.g_squared coupling) right

  pub energy_kept : (k : ℕ) → 1 ≤ k → k ≤ 64 → kept (energy p.electric k) ≡ true
  unfolding mul round
  energy_kept k h few = let small : k ≤ 2 ^ 26 = omega arith in diagonals.energy_kept least p.electric tt tt electric_low k h small

  pub no_energy : kept (energy p.electric 0) ≡ false
  unfolding mul round
  no_energy = diagonals.no_energy least p.electric tt tt electric_low
