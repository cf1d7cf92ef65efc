use Rattle.std.proofs.Common.{refl}
use Rattle.su2_products.proofs.Sums.{few_states, block_fits, product_written}
use Rattle.su2_products.proofs.write_product.Goals as goal

pub write_blocks-requires : goal.write_blocks-requires
write_blocks-requires c =
    let tables = c.of-flips.ensures in
    (few_states c.requires.0, rw tables.1 (block_fits c.requires.0 tables.0 _ c.requires.2.0 c.requires.2.1 c.args.vector.now refl), c.requires.0.long)

pub returns : goal.returns
returns c =
    let tables = c.of-flips.ensures in
    product_written c.requires.0 tables.0 _ c.requires.2.0 c.requires.2.1 c.args.vector.now _ _ (rw tables.1 at c.write_blocks.ensures)
