-- The product of the triangle's Hamiltonian with a vector, computed.
use mathlib.Core.List.{[], ◌∷◌, flat_map}
use mathlib.Core.Path.{◌≡◌, refl}
use lib.Ieee.{binary64, of_int, of_bits, add, mul, div, neg}
use Rattle.mathematics.specs.Integers.{equal}
use Rattle.mathematics.specs.Lists.{same, listed, position, choose}
use Rattle.mathematics.specs.Tests.{every_entry, every}
use Rattle.mathematics.specs.Counting.{below, keep, counted}
use Rattle.complex.specs.Complex.{Complex, uncharged}
use Rattle.complex.specs.Search.{whole_search, served, serve, scan, look, touches, across}
use Rattle.complex.specs.Sides.{sides, side}
use Rattle.gauss_law.specs.Gauss.{flow, gauss, lawful, within}
use Rattle.gauss_law.specs.Listing.{tree_edges, free_edges, values, placed, listing, states}
use Rattle.gauss_law.specs.Shifts.{raised, shifted, triangle_move}
use Rattle.hilbert.specs.Basis.{decided, smaller, comes_before, place}
use Rattle.matrices.specs.Coupling.{float_of, u1_params}
use Rattle.matrices.specs.Squares.{squares}
use Rattle.matrices.specs.Terms.{row_plaquette_term}
use Rattle.plaquettes.specs.Triangle.{moved_state, sides_within, target}
use Rattle.lanczos.specs.Matvec.{electric_product, with_hit, states_added, triangles_added, u1_product}

triangle : Complex
triangle = record { vertices = 3; edges = (0 ∷ 1 ∷ []) ∷ (0 ∷ 2 ∷ []) ∷ (1 ∷ 2 ∷ []) ∷ []; triangles = (0 ∷ 1 ∷ 2 ∷ []) ∷ []; charges = uncharged }

-- g² 1, every weight 1: (1, 2, 3) gives (0.5, -2, 3.5)
product_is : u1_product triangle 1 (u1_params (float_of 1)) (λ t. float_of 1) (float_of 1 ∷ float_of 2 ∷ float_of 3 ∷ [])
    ≡ of_bits binary64 0x3FE0000000000000 ∷ of_bits binary64 0xC000000000000000 ∷ of_bits binary64 0x400C000000000000 ∷ []
unfolding triangle u1_product triangles_added states_added with_hit electric_product row_plaquette_term squares u1_params float_of add mul div neg of_int of_bits target moved_state sides_within triangle_move shifted raised side sides choose same position every_entry within place comes_before smaller decided states listing tree_edges free_edges values placed lawful gauss flow equal listed every below keep counted flat_map whole_search served serve scan look touches across
product_is = refl

-- one state, and -0.0 for it: every entry starts from 0.0, so the product is 0.0
from_zero : u1_product triangle 0 (u1_params (float_of 1)) (λ t. float_of 1) (neg (float_of 0) ∷ []) ≡ float_of 0 ∷ []
unfolding triangle u1_product triangles_added states_added with_hit electric_product row_plaquette_term squares u1_params float_of add mul div neg of_int of_bits target moved_state sides_within triangle_move shifted raised side sides choose same position every_entry within place comes_before smaller decided states listing tree_edges free_edges values placed lawful gauss flow equal listed every below keep counted flat_map whole_search served serve scan look touches across
from_zero = refl
