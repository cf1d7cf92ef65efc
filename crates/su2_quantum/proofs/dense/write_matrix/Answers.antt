use Rattle.std.proofs.Common.{◌≤◌, length, length-append, ap, arith}
use Rattle.complex.specs.Complex.{complex_of}
use Rattle.matrices.specs.Coupling.{float_of}
use Rattle.su2_even_sets.specs.EvenSets.{su2_states}
use Rattle.su2_quantum.proofs.DenseEntries.{rows_number, rows_few, electric_matrix, matrix_written}
use Rattle.su2_quantum.proofs.dense.write_matrix.Goals as goal

pub clear_matrix-requires : goal.clear_matrix-requires
clear_matrix-requires c = (rows_few _ _ _ _ c.requires.0, c.requires.0.long)

pub add_energies-requires : goal.add_energies-requires
add_energies-requires c =
    let long : c.args.n ≤ length c.args.states.now = omega (arith, rows_number _ _ _ _ c.requires.0, ap length c.requires.2.1, length-append (su2_states (complex_of c.args.c)) c.requires.2.0) in
    (rows_few _ _ _ _ c.requires.0, rw c.clear_matrix.auto.h c.requires.0.long, long)

pub returns : goal.returns
returns c =
    let matrix = c.requires.0 in
    let right = matrix.loops.accepted in
    let rows = rows_number _ _ _ _ matrix in
    let energies = c.add_energies.ensures (λ i j. float_of 0) c.args.h.now c.clear_matrix.ensures in
    let electric = electric_matrix _ right c.args.p _ rows _ _ _ c.requires.2.0 c.requires.2.1 energies in
    matrix_written _ right c.args.p _ rows _ _ _ (c.add_triangles.ensures c.args.h.now electric) matrix.long
