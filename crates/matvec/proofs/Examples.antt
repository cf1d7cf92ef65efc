-- Worked cases, computed.
use Prim.Native.Nat.{ℕ}
use mathlib.Core.List.{List, [], ◌∷◌}
use mathlib.Core.Path.{◌≡◌, refl}
use lib.Ieee.{Float, binary64, nan, neg, add, mul, div, le, lt, eq, of_int}
use Rattle.mathematics.specs.Tests.{every_entry, every}
use Rattle.mathematics.specs.Counting.{below}
use Rattle.mathematics.specs.Refusals.{first}
use Rattle.matrices.specs.Coupling.{float_of}
use Rattle.matrices.specs.Weights.{bounded}
use Rattle.rows.specs.Entries.{pairs}
use Rattle.matvec.specs.Product.{row_entries, with_products, row_sum, product, never_falls, starts_right, columns_right, value_right, product_tests}

halves : ℕ → Float
halves n = div binary64 (float_of n) (float_of 2)

-- ---- the triangle with g² 1: rows 1.5 -0.5 0, -0.5 0 -0.5 and 0 -0.5 1.5
starts : List ℕ
starts = 0 ∷ 2 ∷ 4 ∷ 6 ∷ []

columns : List ℕ
columns = 0 ∷ 1 ∷ 0 ∷ 2 ∷ 1 ∷ 2 ∷ []

values : List Float
values = halves 3 ∷ neg (halves 1) ∷ neg (halves 1) ∷ neg (halves 1) ∷ neg (halves 1) ∷ halves 3 ∷ []

vector : List Float
vector = float_of 1 ∷ float_of 2 ∷ float_of 3 ∷ []

-- times (1, 2, 3) is (0.5, -2, 3.5)
triangle_product : product starts columns values vector ≡ halves 1 ∷ neg (halves 4) ∷ halves 7 ∷ []
unfolding starts columns values vector halves product row_entries row_sum with_products pairs below float_of of_int neg add mul div
triangle_product = refl

triangle_passes : first (product_tests starts columns values vector 3) ≡ 0
unfolding starts columns values vector halves first every every_entry never_falls starts_right columns_right value_right bounded float_of of_int neg div le lt eq
triangle_passes = refl

-- no rows, and no starts at all
empty : (first (product_tests (0 ∷ []) [] [] [] 0) ≡ 0) × (first (product_tests [] [] [] [] 0) ≡ 12)
unfolding first every every_entry never_falls starts_right columns_right
empty = (refl, refl)

-- a column equal to the number of rows, and a value that is not a number
refused : (first (product_tests (0 ∷ 1 ∷ []) (1 ∷ []) (float_of 1 ∷ []) (float_of 1 ∷ []) 1) ≡ 13) × (first (product_tests (0 ∷ 1 ∷ []) (0 ∷ []) (nan ∷ []) (float_of 1 ∷ []) 1) ≡ 14)
unfolding first every every_entry never_falls starts_right columns_right value_right bounded float_of of_int neg le lt eq
refused = (refl, refl)
