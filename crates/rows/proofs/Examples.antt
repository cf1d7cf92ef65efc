-- A row, computed.
use Prim.Native.Nat.{ℕ, ◌+◌}
use mathlib.Core.List.{List, [], ◌∷◌}
use mathlib.Core.Path.{◌≡◌, refl}
use lib.Dec.{eqb}
use lib.Ieee.{Float, of_int, lt}
use Rattle.mathematics.specs.Tests.{some, the_one}
use Rattle.mathematics.specs.Counting.{below, keep}
use Rattle.matrices.specs.Coupling.{float_of}
use Rattle.rows.specs.Row.{kept, has_entry, entry_value, row_of}

-- ---- row 2 of 5 columns: its diagonal is 7, and triangles 0 and 1 join it to the columns 3 and 4, with the terms 10 and 11
row : ℕ → List (ℕ × Float)
row diagonal = row_of (float_of diagonal) (λ t j. eqb (t + 3) j) (λ t. float_of (t + 10)) 2 5 2

row_is : row 7 ≡ (2, float_of 7) ∷ (3, float_of 10) ∷ (4, float_of 11) ∷ []
unfolding row row_of has_entry entry_value kept some the_one below keep float_of of_int lt
row_is = refl

-- ---- a diagonal 0 is left out
without_diagonal : row 0 ≡ (3, float_of 10) ∷ (4, float_of 11) ∷ []
unfolding row row_of has_entry entry_value kept some the_one below keep float_of of_int lt
without_diagonal = refl
