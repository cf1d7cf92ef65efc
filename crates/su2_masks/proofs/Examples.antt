-- The joined states of the tetrahedron, computed.
use mathlib.Core.List.{[], ◌∷◌}
use mathlib.Core.Path.{◌≡◌, refl}
use Rattle.mathematics.specs.Bits.{bit}
use Rattle.mathematics.specs.Lists.{same, position, choose}
use Rattle.mathematics.specs.Tests.{every, some}
use Rattle.mathematics.specs.Counting.{below, keep}
use Rattle.complex.specs.Complex.{Complex, uncharged}
use Rattle.complex.specs.Search.{touches}
use Rattle.complex.specs.Sides.{sides, side}
use Rattle.su2_even_sets.specs.EvenSets.{chosen, meeting, even, su2_states, mask_place}
use Rattle.su2_masks.specs.Flips.{triangle_mask, flips, su2_joined}

tetrahedron : Complex
tetrahedron =
    record {
      vertices = 4;
      edges = (0 ∷ 1 ∷ []) ∷ (0 ∷ 2 ∷ []) ∷ (0 ∷ 3 ∷ []) ∷ (1 ∷ 2 ∷ []) ∷ (1 ∷ 3 ∷ []) ∷ (2 ∷ 3 ∷ []) ∷ [];
      triangles = (0 ∷ 1 ∷ 2 ∷ []) ∷ (0 ∷ 1 ∷ 3 ∷ []) ∷ (0 ∷ 2 ∷ 3 ∷ []) ∷ (1 ∷ 2 ∷ 3 ∷ []) ∷ [];
      charges = uncharged;
    }

-- eight states, and four columns in a row
neighbours : (su2_joined tetrahedron 0 ≡ 1 ∷ 2 ∷ 4 ∷ 7 ∷ []) × (su2_joined tetrahedron 3 ≡ 1 ∷ 2 ∷ 4 ∷ 7 ∷ [])
unfolding tetrahedron su2_joined some flips triangle_mask side sides choose same position mask_place su2_states even meeting chosen bit every below keep touches
neighbours = (refl, refl)
