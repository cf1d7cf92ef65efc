use Rattle.std.proofs.Common.{arith, rules}
use Rattle.triangles.proofs.SidesFound.{triangles_long, small_triangle, sided}
use Rattle.triangles.proofs.AllSides.{sides_small, sides_next}
use Rattle.triangles.proofs.all_sides.Goals as goal

pub sides_of-requires : goal.sides_of-requires
sides_of-requires c =
    (small_triangle _ _ c.requires _ c.edge_table-table.ensures c.loop-t-test.true, sided _ _ c.requires _ c.edge_table-table.ensures c.loop-t-test.true)

pub write_sides-requires : goal.write_sides-requires
write_sides-requires c = sides_small _ c.requires c.edge_table-table.ensures c.loop-t-test.true c.sides_of.ensures

pub loop-t-preserved : goal.loop-t-preserved
loop-t-preserved c =
    rw c.write_sides.ensures (sides_next _ c.requires c.edge_table-table.ensures c.loop-t-test.true c.sides_of.ensures _ (search rules) c.loop-t.invariant)

pub returns : goal.returns
returns c = record { are = λ t h. c.loop-t.invariant t (omega (arith, h, triangles_long c.args.c)) }
