-- The targets and the joined states of the triangle, computed.
use mathlib.Core.List.{[], ◌∷◌, flat_map}
use mathlib.Core.Path.{◌≡◌, refl}
use lib.IntN.{pos, negsuc}
use Rattle.mathematics.specs.Integers.{equal}
use Rattle.mathematics.specs.Lists.{same, listed, position, choose}
use Rattle.mathematics.specs.Tests.{every_entry, every, some}
use Rattle.mathematics.specs.Counting.{below, keep, counted}
use Rattle.complex.specs.Complex.{Complex, uncharged}
use Rattle.complex.specs.Search.{whole_search, served, serve, scan, look, touches, across}
use Rattle.complex.specs.Sides.{sides, side}
use Rattle.gauss_law.specs.Gauss.{flow, gauss, lawful, within}
use Rattle.gauss_law.specs.Listing.{tree_edges, free_edges, values, placed, listing, states}
use Rattle.gauss_law.specs.Shifts.{raised, shifted, triangle_move}
use Rattle.hilbert.specs.Basis.{decided, smaller, comes_before, place}
use Rattle.plaquettes.specs.Triangle.{moved_state, sides_within, target, hits}
use Rattle.plaquettes.specs.Joined.{joined, staying, arrival, arrivals}

triangle : Complex
triangle = record { vertices = 3; edges = (0 ∷ 1 ∷ []) ∷ (0 ∷ 2 ∷ []) ∷ (1 ∷ 2 ∷ []) ∷ []; triangles = (0 ∷ 1 ∷ 2 ∷ []) ∷ []; charges = uncharged }

-- three states in a row: the last has no target, and the first none back
forward : (target triangle 1 0 (pos 1) 0 ≡ 1) × (target triangle 1 0 (pos 1) 1 ≡ 2) × (target triangle 1 0 (pos 1) 2 ≡ 3)
unfolding triangle target moved_state sides_within triangle_move shifted raised side sides choose same position every_entry within place comes_before smaller decided states listing tree_edges free_edges values placed lawful gauss flow equal listed every below keep counted flat_map whole_search served serve scan look touches across
forward = (refl, refl, refl)

back : (target triangle 1 0 (negsuc 0) 0 ≡ 3) × (target triangle 1 0 (negsuc 0) 1 ≡ 0) × (target triangle 1 0 (negsuc 0) 2 ≡ 1)
unfolding triangle target moved_state sides_within triangle_move shifted raised side sides choose same position every_entry within place comes_before smaller decided states listing tree_edges free_edges values placed lawful gauss flow equal listed every below keep counted flat_map whole_search served serve scan look touches across
back = (refl, refl, refl)

-- the middle state is joined to both others
neighbours : (joined triangle 1 0 ≡ 1 ∷ []) × (joined triangle 1 1 ≡ 0 ∷ 2 ∷ []) × (joined triangle 1 2 ≡ 1 ∷ []) × (arrivals triangle 1 1 1 ≡ 2 ∷ 0 ∷ [])
unfolding triangle joined some hits arrivals arrival target moved_state sides_within triangle_move shifted raised side sides choose same position every_entry within place comes_before smaller decided states listing tree_edges free_edges values placed lawful gauss flow equal listed every below keep counted flat_map whole_search served serve scan look touches across
neighbours = (refl, refl, refl, refl)

two_moves : staying triangle 1 (pos 0 ∷ pos 0 ∷ pos 0 ∷ []) 1 ≡ 2
unfolding triangle staying sides_within triangle_move shifted raised side sides choose same position every_entry within
two_moves = refl
