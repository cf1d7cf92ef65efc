-- The flip of a triangle: which state goes to which, and the columns of a row.
use Rattle.std.specs.Prelude.{ℕ, ◌^◌, List, map, Bool, eqb, get_or, length}
use Rattle.std.specs.Int.Bits.{bit_xor}
use Rattle.mathematics.specs.Tests.{some}
use Rattle.mathematics.specs.Counting.{below, keep}
use Rattle.complex.specs.Complex.{Complex}
use Rattle.complex.specs.Sides.{side}
use Rattle.su2_even_sets.specs.EvenSets.{su2_states, mask_place}

-- the three edges of triangle t as a mask
unfoldable pub triangle_mask : Complex → ℕ → ℕ
triangle_mask c t = bit_xor (bit_xor (2 ^ side c t 0) (2 ^ side c t 1)) (2 ^ side c t 2)

-- state i with the three edges of triangle t flipped, and its place
abbrev pub flipped_state : Complex → ℕ → ℕ → ℕ
flipped_state c t i = bit_xor (get_or (su2_states c) i 0) (triangle_mask c t)

abbrev pub su2_target : Complex → ℕ → ℕ → ℕ
su2_target c t i = mask_place c (flipped_state c t i)

-- the states to which the triangles flip state i, triangle by triangle
abbrev pub su2_targets : Complex → ℕ → List ℕ
su2_targets c i = map (λ t. su2_target c t i) (below (length c.triangles))

-- triangle t flips state i to state j
unfoldable pub flips : Complex → ℕ → ℕ → ℕ → Bool
flips c t i j = eqb (su2_target c t i) j

-- the states that some triangle flips state i to, rising: the columns of row i besides its diagonal
unfoldable pub su2_joined : Complex → ℕ → List ℕ
su2_joined c i = keep (λ j. some (λ t. flips c t i j) (length c.triangles)) (below (length (su2_states c)))
