-- A worked case, computed.
use Prim.Native.Nat.{ℕ}
use mathlib.Core.List.{[], ◌∷◌}
use mathlib.Core.Bool.{true, false}
use mathlib.Core.Path.{◌≡◌, refl}
use lib.Count.{ones, ones_in}
use lib.IntN.{pos, negsuc}
use lib.Ieee.{Float, fin, neg, mul, div, add, of_int}
use Rattle.mathematics.specs.Bits.{bit}
use Rattle.mathematics.specs.Lists.{same, position, choose}
use Rattle.mathematics.specs.Tests.{every}
use Rattle.mathematics.specs.Counting.{below, keep}
use Rattle.complex.specs.Complex.{Complex, uncharged}
use Rattle.complex.specs.Search.{touches}
use Rattle.complex.specs.Sides.{sides, side}
use Rattle.matrices.specs.Coupling.{float_of, su2_params}
use Rattle.su2_even_sets.specs.EvenSets.{chosen, meeting, even, su2_states, mask_place}
use Rattle.su2_masks.specs.Flips.{triangle_mask}
use Rattle.su2_rows.specs.Rows.{su2_diagonal}
use Rattle.su2_products.specs.Product.{su2_electric_part, su2_product_at, su2_product}

triangle : Complex
triangle =
    record {
      vertices = 3;
      edges = (0 ∷ 1 ∷ []) ∷ (0 ∷ 2 ∷ []) ∷ (1 ∷ 2 ∷ []) ∷ [];
      triangles = (0 ∷ 1 ∷ 2 ∷ []) ∷ [];
      charges = uncharged;
    }

ones_everywhere : ℕ → Float
ones_everywhere t = float_of 1

-- ---- the triangle with g² 1: its matrix 0 -0.5 / -0.5 1.125 times (1, 2) is (-1, 1.75)
triangle_product : su2_product triangle (su2_params (float_of 1)) ones_everywhere (float_of 1 ∷ float_of 2 ∷ []) ≡ fin true 1 (pos 0) ∷ fin false 7 (negsuc 1) ∷ []
unfolding triangle ones_everywhere su2_product su2_product_at su2_electric_part su2_diagonal su2_params triangle_mask side sides choose same position mask_place su2_states even meeting chosen bit every below keep touches ones ones_in float_of of_int neg mul div add
triangle_product = refl
