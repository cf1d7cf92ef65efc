-- The row lists of the triangle, computed.
use mathlib.Core.List.{[], ◌∷◌, flat_map}
use mathlib.Core.Path.{◌≡◌, refl}
use lib.Ieee.{binary64, of_int, of_bits, add, mul, div, neg, lt}
use Rattle.mathematics.specs.Integers.{equal}
use Rattle.mathematics.specs.Lists.{same, listed, position, choose}
use Rattle.mathematics.specs.Tests.{every_entry, every, some, the_one}
use Rattle.mathematics.specs.Counting.{below, keep, counted}
use Rattle.complex.specs.Complex.{Complex, uncharged}
use Rattle.complex.specs.Search.{whole_search, served, serve, scan, look, touches, across}
use Rattle.complex.specs.Sides.{sides, side}
use Rattle.gauss_law.specs.Gauss.{flow, gauss, lawful, within}
use Rattle.gauss_law.specs.Listing.{tree_edges, free_edges, values, placed, listing, states}
use Rattle.gauss_law.specs.Shifts.{raised, shifted, triangle_move}
use Rattle.hilbert.specs.Basis.{decided, smaller, comes_before, place}
use Rattle.matrices.specs.Coupling.{float_of, u1_params}
use Rattle.matrices.specs.Squares.{squares}
use Rattle.matrices.specs.Terms.{row_plaquette_term}
use Rattle.rows.specs.Row.{kept, has_entry, entry_value, row_of}
use Rattle.rows.specs.RowLists.{rows_to, row_starts, row_columns, row_values}
use Rattle.plaquettes.specs.Triangle.{moved_state, sides_within, target, hits}
use Rattle.plaquettes.specs.Joined.{staying}
use Rattle.entries.specs.Rows.{diagonal, csr_row}
use Rattle.entries.specs.Count.{row_count, over_states}
use Rattle.entries.specs.Entries.{triangle_hits, hits_number}

triangle : Complex
triangle = record { vertices = 3; edges = (0 ∷ 1 ∷ []) ∷ (0 ∷ 2 ∷ []) ∷ (1 ∷ 2 ∷ []) ∷ []; triangles = (0 ∷ 1 ∷ 2 ∷ []) ∷ []; charges = uncharged }

-- g² 1, every weight 1: the diagonal of the middle state is 0 and is left out
starts_are : row_starts (csr_row triangle 1 (u1_params (float_of 1)) (λ t. float_of 1)) 3 ≡ 0 ∷ 2 ∷ 4 ∷ 6 ∷ []
unfolding triangle row_starts rows_to csr_row row_of has_entry entry_value the_one some diagonal kept row_plaquette_term squares u1_params float_of add mul div neg of_int of_bits lt hits target moved_state sides_within triangle_move shifted raised side sides choose same position every_entry within place comes_before smaller decided states listing tree_edges free_edges values placed lawful gauss flow equal listed every below keep counted flat_map whole_search served serve scan look touches across
starts_are = refl

columns_are : row_columns (csr_row triangle 1 (u1_params (float_of 1)) (λ t. float_of 1)) 3 ≡ 0 ∷ 1 ∷ 0 ∷ 2 ∷ 1 ∷ 2 ∷ []
unfolding triangle row_columns rows_to csr_row row_of has_entry entry_value the_one some diagonal kept row_plaquette_term squares u1_params float_of add mul div neg of_int of_bits lt hits target moved_state sides_within triangle_move shifted raised side sides choose same position every_entry within place comes_before smaller decided states listing tree_edges free_edges values placed lawful gauss flow equal listed every below keep counted flat_map whole_search served serve scan look touches across
columns_are = refl

-- 1.5 -0.5 / -0.5 -0.5 / -0.5 1.5
values_are : row_values (csr_row triangle 1 (u1_params (float_of 1)) (λ t. float_of 1)) 3
    ≡ of_bits binary64 0x3FF8000000000000 ∷ of_bits binary64 0xBFE0000000000000 ∷ of_bits binary64 0xBFE0000000000000 ∷ of_bits binary64 0xBFE0000000000000 ∷ of_bits binary64 0xBFE0000000000000 ∷ of_bits binary64 0x3FF8000000000000 ∷ []
unfolding triangle row_values rows_to csr_row row_of has_entry entry_value the_one some diagonal kept row_plaquette_term squares u1_params float_of add mul div neg of_int of_bits lt hits target moved_state sides_within triangle_move shifted raised side sides choose same position every_entry within place comes_before smaller decided states listing tree_edges free_edges values placed lawful gauss flow equal listed every below keep counted flat_map whole_search served serve scan look touches across
values_are = refl

six : over_states (row_count triangle 1 (u1_params (float_of 1))) (states triangle 1) ≡ 6
unfolding triangle over_states row_count staying diagonal kept squares u1_params float_of add mul div neg of_int of_bits lt sides_within triangle_move shifted raised side sides choose same position every_entry within states listing tree_edges free_edges values placed lawful gauss flow equal listed every below keep counted flat_map whole_search served serve scan look touches across
six = refl

-- 6 = 3 - 1 + 2 × 2
two_hits : hits_number triangle 1 ≡ 2
unfolding triangle hits_number triangle_hits hits target moved_state sides_within triangle_move shifted raised side sides choose same position every_entry within place comes_before smaller decided states listing tree_edges free_edges values placed lawful gauss flow equal listed every below keep counted flat_map whole_search served serve scan look touches across
two_hits = refl
