-- The electric term: a factor times a whole number of a state, for U(1) the sum of its squares, for Z2 the number of its edges.
use Rattle.std.specs.Prelude.{ℕ, ◌+◌, ◌*◌, List, [], ◌∷◌, ℤ, nat_abs, Float}
use Rattle.std.specs.Float.{binary64}
use Rattle.std.specs.Float.Ieee.{mul}
use Rattle.matrices.specs.Coupling.{float_of}

-- a factor times a whole number
abbrev pub energy : Float → ℕ → Float
energy factor n = mul binary64 factor (float_of n)

-- the sum of the squares of a state's values, a whole number
unfoldable pub squares : List ℤ → ℕ
squares [] = 0
squares (x ∷ s) = nat_abs x * nat_abs x + squares s
