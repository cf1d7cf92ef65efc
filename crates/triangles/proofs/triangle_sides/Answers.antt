use Rattle.triangles.proofs.SidesFound.{small_triangle, sided, sides_read}
use Rattle.triangles.proofs.triangle_sides.Goals as goal

pub sides_of-requires : goal.sides_of-requires
sides_of-requires c =
    (small_triangle _ _ c.requires.0 _ c.edge_table-table.ensures c.requires.1, sided _ _ c.requires.0 _ c.edge_table-table.ensures c.requires.1)

pub returns : goal.returns
returns c = rw c.sides_of.ensures (sides_read _ _ c.requires.0 _ c.edge_table-table.ensures c.requires.1)
