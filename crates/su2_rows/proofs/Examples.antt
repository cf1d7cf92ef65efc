-- Worked cases, computed.
use Prim.Native.Nat.{ℕ, ◌+◌}
use mathlib.Core.List.{List, [], ◌∷◌, flat_map}
use mathlib.Core.Bool.{true, false}
use mathlib.Core.Path.{◌≡◌, refl}
use lib.Count.{ones, ones_in}
use lib.IntN.{pos, negsuc}
use lib.Ieee.{Float, fin, neg, mul, div, lt, of_int}
use Rattle.mathematics.specs.Bits.{bit}
use Rattle.mathematics.specs.Lists.{same, position, choose}
use Rattle.mathematics.specs.Tests.{every, some, the_one}
use Rattle.mathematics.specs.Counting.{below, keep}
use Rattle.complex.specs.Complex.{Complex, uncharged}
use Rattle.complex.specs.Search.{touches}
use Rattle.complex.specs.Sides.{sides, side}
use Rattle.matrices.specs.Coupling.{float_of, su2_params}
use Rattle.rows.specs.Row.{kept, has_entry, entry_value, row_of}
use Rattle.rows.specs.RowLists.{rows_to, row_starts, row_columns}
use Rattle.su2_even_sets.specs.EvenSets.{chosen, meeting, even, su2_states, mask_place}
use Rattle.su2_masks.specs.Flips.{triangle_mask, flips}
use Rattle.su2_rows.specs.Rows.{su2_diagonal, su2_row}

triangle : Complex
triangle =
    record {
      vertices = 3;
      edges = (0 ∷ 1 ∷ []) ∷ (0 ∷ 2 ∷ []) ∷ (1 ∷ 2 ∷ []) ∷ [];
      triangles = (0 ∷ 1 ∷ 2 ∷ []) ∷ [];
      charges = uncharged;
    }

ones_everywhere : ℕ → Float
ones_everywhere t = float_of 1

row : ℕ → List (ℕ × Float)
row = su2_row triangle (su2_params (float_of 1)) ones_everywhere

-- ---- the triangle with g² 1: rows (1: -0.5) and (0: -0.5, 1: 1.125)
triangle_rows : rows_to row 2 ≡ (1, fin true 1 (negsuc 0)) ∷ (0, fin true 1 (negsuc 0)) ∷ (1, fin false 9 (negsuc 2)) ∷ []
unfolding row ones_everywhere triangle rows_to su2_row has_entry entry_value su2_diagonal su2_params row_of the_one some kept flips triangle_mask side sides choose same position mask_place su2_states even meeting chosen bit every below keep touches flat_map ones ones_in float_of of_int neg mul div lt
triangle_rows = refl

triangle_lists : (row_starts row 2 ≡ 0 ∷ 1 ∷ 3 ∷ []) × (row_columns row 2 ≡ 1 ∷ 0 ∷ 1 ∷ [])
unfolding row ones_everywhere triangle row_starts row_columns rows_to su2_row has_entry entry_value su2_diagonal su2_params row_of the_one some kept flips triangle_mask side sides choose same position mask_place su2_states even meeting chosen bit every below keep touches flat_map ones ones_in float_of of_int neg mul div lt
triangle_lists = (refl, refl)

-- ---- the tetrahedron with g² 1 and the weights 1, 2, 3, 4: the triangles flip state 7 to 6, 5, 3 and 0
tetrahedron : Complex
tetrahedron =
    record {
      vertices = 4;
      edges = (0 ∷ 1 ∷ []) ∷ (0 ∷ 2 ∷ []) ∷ (0 ∷ 3 ∷ []) ∷ (1 ∷ 2 ∷ []) ∷ (1 ∷ 3 ∷ []) ∷ (2 ∷ 3 ∷ []) ∷ [];
      triangles = (0 ∷ 1 ∷ 2 ∷ []) ∷ (0 ∷ 1 ∷ 3 ∷ []) ∷ (0 ∷ 2 ∷ 3 ∷ []) ∷ (1 ∷ 2 ∷ 3 ∷ []) ∷ [];
      charges = uncharged;
    }

last_row : su2_row tetrahedron (su2_params (float_of 1)) (λ t. float_of (t + 1)) 7
    ≡ (0, fin true 1 (pos 1)) ∷ (3, fin true 3 (negsuc 0)) ∷ (5, fin true 1 (pos 0)) ∷ (6, fin true 1 (negsuc 0)) ∷ (7, fin false 9 (negsuc 2)) ∷ []
unfolding tetrahedron su2_row has_entry entry_value su2_diagonal su2_params row_of the_one some kept flips triangle_mask side sides choose same position mask_place su2_states even meeting chosen bit every below keep touches flat_map ones ones_in float_of of_int neg mul div lt
last_row = refl
