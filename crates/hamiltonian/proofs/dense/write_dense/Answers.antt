use Rattle.matrices.specs.Weights.{weight, is_given, given_list}
use Rattle.triangles.proofs.SidesFound.{triangles_long}
use Rattle.plaquettes.proofs.Listed.{small_rows}
use Rattle.hamiltonian.proofs.DenseWritten.{electric_written, dense_written}
use Rattle.hamiltonian.proofs.dense.write_dense.Goals as goal

pub clear_matrix-requires : goal.clear_matrix-requires
clear_matrix-requires c = (c.requires.1.few, c.requires.3)

pub add_electric-requires : goal.add_electric-requires
add_electric-requires c = (small_rows _ _ _ _ c.requires.1, rw c.clear_matrix.auto.h c.requires.3)

pub add_magnetic-requires : goal.add_magnetic-requires
add_magnetic-requires c = (c.requires.0, c.requires.1, c.requires.2, rw (c.add_electric.auto.h, c.clear_matrix.auto.h) c.requires.3)

pub returns : goal.returns
returns c =
    let w = weight (is_given c.args.weights) (given_list c.args.weights) in
    dense_written _ _ _ _ c.requires.1 c.args.p w c.args.h.now _ c.requires.3
    (rw (triangles_long c.args.c) (c.add_magnetic.ensures _ (electric_written _ _ _ _ c.requires.1 c.args.p w c.args.h.now _ (c.add_electric.ensures _ _ c.clear_matrix.ensures))))
