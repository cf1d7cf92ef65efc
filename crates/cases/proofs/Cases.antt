-- Every case of the table holds: the definitions compute the expected values.
use mathlib.Core.List.{flat_map, flatten}
use mathlib.Core.Path.{refl}
use lib.Count.{ones}
use lib.Ieee.{of_int, add, mul, div, neg, le, lt, eq}
use Rattle.mathematics.specs.Integers.{equal}
use Rattle.mathematics.specs.Lists.{same, listed, position, distinct, choose}
use Rattle.mathematics.specs.Tests.{every_entry, every, some, the_one}
use Rattle.mathematics.specs.Refusals.{first, outcome}
use Rattle.mathematics.specs.Bits.{bit}
use Rattle.mathematics.specs.Counting.{below, keep, counted}
use Rattle.mathematics.specs.Entries.{Each, none, also}
use Rattle.complex.specs.Complex.{entries, simplices, complex_of}
use Rattle.complex.specs.Search.{whole_search, served, serve, scan, look, touches, across, connected}
use Rattle.complex.specs.Sides.{sides, side}
use Rattle.complex.specs.Judge.{counts_right, rising, simplices_right, sides_listed, triangles_right}
use Rattle.sheet.specs.Sheet.{word, padded, sheet_in, header_tests, reading_refusal}
use Rattle.gauss_law.specs.Gauss.{flow, gauss, lawful, within}
use Rattle.gauss_law.specs.Listing.{tree_edges, free_edges, values, placed, listing, states}
use Rattle.gauss_law.specs.Shifts.{raised, shifted, triangle_move}
use Rattle.enumeration.specs.Enumeration.{short}
use Rattle.hilbert.specs.Basis.{in_basis, decided, smaller, comes_before, place as place_of}
use Rattle.matrices.specs.Coupling.{float_of, coupling_right, u1_params, su2_params, params_right, u1_right, su2_right}
use Rattle.matrices.specs.Weights.{bounded, weight, weights_tests, vector_tests}
use Rattle.matrices.specs.Matrix.{matrix_rows}
use Rattle.matrices.specs.Squares.{squares}
use Rattle.matrices.specs.Terms.{dense_plaquette_term, row_plaquette_term}
use Rattle.hamiltonian.specs.Dense.{u1_electric_entry, u1_entry, u1_dense}
use Rattle.rows.specs.Row.{kept, has_entry, entry_value, row_of}
use Rattle.rows.specs.RowLists.{rows_to, row_starts}
use Rattle.entries.specs.Rows.{diagonal, csr_row, csr_entries}
use Rattle.lanczos.specs.Matvec.{electric_product, with_hit, states_added, triangles_added, u1_product}
use Rattle.electric.specs.Electric.{field_term, field_sum, field_squares}
use Rattle.wilson.specs.Wilson.{path_of, stays, walked, with_reached, wilson_sum, wilson, step_right}
use Rattle.plaquettes.specs.Triangle.{hits, target, moved_state, sides_within}
use Rattle.loops.specs.Parents.{parents_of, climb, tree_path}
use Rattle.loops.specs.Loops.{parents, path, loop_of, fundamental_loops}
use Rattle.su2_even_sets.specs.EvenSets.{chosen, meeting, even, su2_states, mask_place}
use Rattle.su2_masks.specs.Flips.{triangle_mask, flips}
use Rattle.su2_quantum.specs.Dense.{su2_electric_entry, su2_entry, su2_dense}
use Rattle.su2_loops.specs.Loop.{names, met, sign_of, su2_loop_sum, su2_expectation, path_right, loop_tests}
use Rattle.lines.specs.Lines.{ascii, last_digits, decimal, signed_text, value_text, values_text, state_line, state_lines, named, counts_text, first_line}
use Rattle.lines.specs.Printed.{printed}
use Rattle.cases.specs.Cases.{Holds, eighths, triangle, one_vertex, tetrahedron, table}

pub cases : Each Holds table
unfolding row_starts rows_to csr_row csr_entries row_of has_entry entry_value the_one some diagonal kept u1_product triangles_added states_added with_hit electric_product row_plaquette_term vector_tests bounded field_squares field_sum field_term wilson wilson_sum with_reached stays walked path_of step_right in_basis fundamental_loops loop_of path parents parents_of tree_path climb weights_tests coupling_right params_right u1_right su2_right le lt eq reading_refusal header_tests sheet_in word padded complex_of simplices entries eighths u1_dense matrix_rows flatten u1_entry u1_electric_entry hits target dense_plaquette_term weight squares u1_params su2_params float_of add mul div neg of_int su2_dense su2_entry su2_electric_entry flips triangle_mask ones mask_place su2_states even meeting chosen bit moved_state sides_within place_of comes_before smaller decided within triangle_move shifted raised side sides states short outcome table triangle one_vertex tetrahedron first counts_right rising simplices_right sides_listed triangles_right same listed position distinct choose every_entry every whole_search served serve scan look touches across connected tree_edges free_edges below keep counted values placed listing lawful gauss flow equal flat_map printed state_lines first_line counts_text named state_line values_text value_text signed_text decimal last_digits ascii su2_expectation su2_loop_sum sign_of met names path_right loop_tests
cases =
    also (record { accepted = refl; complex = refl; truncation = refl; tree = refl; free = refl; basis = refl; shifts = also refl (also refl none); loops = refl; masks = refl; matrices = also (record { u1_accepted = refl; u1 = refl; starts_accepted = refl; starts = refl; su2_accepted = refl; su2 = refl }) none; su2_loops = also (record { accepted = refl; expectation = refl }) none; measured = also (record { product_accepted = refl; product = refl; squares_accepted = refl; squares = refl; path_accepted = refl; expectation = refl }) none })
    (also (record { accepted = refl; complex = refl; truncation = refl; tree = refl; free = refl; basis = refl; shifts = also refl none; loops = refl; masks = refl; matrices = also (record { u1_accepted = refl; u1 = refl; starts_accepted = refl; starts = refl; su2_accepted = refl; su2 = refl }) none; su2_loops = none; measured = none })
    (also (record { accepted = refl; complex = refl; truncation = refl; tree = refl; free = refl; basis = refl; shifts = none; loops = refl; masks = refl; matrices = also (record { u1_accepted = refl; u1 = refl; starts_accepted = refl; starts = refl; su2_accepted = refl; su2 = refl }) none; su2_loops = none; measured = none })
    (also (record { accepted = refl; complex = refl; truncation = refl; tree = refl; free = refl; basis = refl; shifts = also refl (also refl none); loops = refl; masks = refl; matrices = none; su2_loops = none; measured = none }) none)))
