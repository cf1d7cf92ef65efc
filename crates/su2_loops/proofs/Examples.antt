-- Worked cases, computed.
use Prim.Native.Nat.{ℕ}
use mathlib.Core.List.{[], ◌∷◌}
use mathlib.Core.Bool.{Bool, true}
use mathlib.Core.Path.{◌≡◌, refl}
use lib.IntN.{pos}
use lib.Ieee.{Float, fin, neg, mul, add, of_int}
use Rattle.mathematics.specs.Bits.{bit}
use Rattle.mathematics.specs.Lists.{listed}
use Rattle.mathematics.specs.Tests.{every}
use Rattle.mathematics.specs.Counting.{below, keep}
use Rattle.complex.specs.Complex.{Complex, uncharged}
use Rattle.complex.specs.Search.{touches}
use Rattle.matrices.specs.Coupling.{float_of}
use Rattle.su2_even_sets.specs.EvenSets.{chosen, meeting, even, su2_states}
use Rattle.su2_loops.specs.Loop.{met, sign_of, su2_loop_sum, su2_expectation, names, passes, passes_oddly}

triangle : Complex
triangle =
    record {
      vertices = 3;
      edges = (0 ∷ 1 ∷ []) ∷ (0 ∷ 2 ∷ []) ∷ (1 ∷ 2 ∷ []) ∷ [];
      triangles = (0 ∷ 1 ∷ 2 ∷ []) ∷ [];
      charges = uncharged;
    }

-- the loop on the triangle with amplitudes (3, 5), by the edges that count
told : (ℕ → Bool) → Float
told counts = su2_expectation triangle (float_of 3 ∷ float_of 5 ∷ []) counts

-- ---- all three edges give 9 - 25; so does one edge that is named twice, as it counts once
triangle_loop : (told (names (0 ∷ 1 ∷ 2 ∷ [])) ≡ fin true 1 (pos 4)) × (told (names (0 ∷ 0 ∷ [])) ≡ fin true 1 (pos 4))
unfolding told triangle su2_expectation su2_loop_sum sign_of met names listed su2_states even meeting chosen bit every below keep touches float_of of_int neg mul add
triangle_loop = (refl, refl)

-- ---- by passes too all three edges give 9 - 25; but an edge and back gives 9 + 25, as the empty path does
triangle_passes : (told (passes_oddly (0 ∷ 1 ∷ 2 ∷ [])) ≡ fin true 1 (pos 4)) × (told (passes_oddly (0 ∷ 0 ∷ [])) ≡ float_of 34) × (told (passes_oddly []) ≡ float_of 34)
unfolding told triangle su2_expectation su2_loop_sum sign_of met passes_oddly passes su2_states even meeting chosen bit every below keep touches float_of of_int neg mul add
triangle_passes = (refl, refl, refl)
