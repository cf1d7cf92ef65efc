use Rattle.matrices.specs.Weights.{weight, is_given, given_list}
use Rattle.triangles.proofs.SidesFound.{triangles_long}
use Rattle.plaquettes.proofs.Listed.{small_rows}
use Rattle.lanczos.proofs.Electric.{product_written}
use Rattle.lanczos.proofs.matvec.write_product.Goals as goal

pub write_electric-requires : goal.write_electric-requires
write_electric-requires c = (small_rows _ _ _ _ c.requires.1, c.requires.3, c.requires.4)

pub add_magnetic-requires : goal.add_magnetic-requires
add_magnetic-requires c = (c.requires.0, c.requires.1, c.requires.2, c.requires.3, rw c.write_electric.auto.res c.requires.4, c.requires.5)

pub returns : goal.returns
returns c =
    let w = weight (is_given c.args.weights) (given_list c.args.weights) in
    product_written _ _ _ _ c.requires.1 c.args.p c.args.vector.now w c.args.res.now _ _ c.write_electric.ensures (rw (triangles_long c.args.c) c.add_magnetic.ensures)
