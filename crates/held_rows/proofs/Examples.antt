-- Worked cases, computed.
use mathlib.Core.List.{[], ◌∷◌}
use mathlib.Core.Path.{◌≡◌, refl}
use lib.Ieee.{nan, neg, le, lt, eq, of_int}
use Rattle.mathematics.specs.Tests.{every_entry, every}
use Rattle.mathematics.specs.Refusals.{first}
use Rattle.matrices.specs.Coupling.{float_of}
use Rattle.matvec.specs.Product.{never_falls, starts_right, columns_right, value_right}
use Rattle.held_rows.specs.Lists.{lists_tests}

-- no starts at all, one start and no rows, and a value without a column
lengths : (first (lists_tests [] [] []) ≡ 12) × (first (lists_tests (0 ∷ []) [] []) ≡ 0) × (first (lists_tests (0 ∷ 1 ∷ []) [] (nan ∷ [])) ≡ 12)
unfolding first every every_entry never_falls starts_right columns_right
lengths = (refl, refl, refl)

-- two rows whose starts fall, and a column equal to the number of rows
places : (first (lists_tests (0 ∷ 2 ∷ 1 ∷ []) (0 ∷ []) (nan ∷ [])) ≡ 13) × (first (lists_tests (0 ∷ 0 ∷ 1 ∷ []) (2 ∷ []) (nan ∷ [])) ≡ 13)
unfolding first every every_entry never_falls starts_right columns_right
places = (refl, refl)

-- a value that is not a number, and one that is
numbers : (first (lists_tests (0 ∷ 1 ∷ []) (0 ∷ []) (nan ∷ [])) ≡ 14) × (first (lists_tests (0 ∷ 1 ∷ []) (0 ∷ []) (float_of 1 ∷ [])) ≡ 0)
unfolding first every every_entry never_falls starts_right columns_right value_right float_of of_int neg le lt eq
numbers = (refl, refl)
