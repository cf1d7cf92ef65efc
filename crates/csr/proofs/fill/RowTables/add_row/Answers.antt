use Rattle.std.proofs.Common.{sym, ◌∙◌, arith, rules}
use Rattle.csr.proofs.Filling.{room_fits, row_small, row_done}
use Rattle.csr.proofs.fill.RowTables.add_row.Goals as goal

pub copy_row-requires : goal.copy_row-requires
copy_row-requires c = room_fits _ _ _ _ _ _ _ c.find_row-count.new.room c.find_row-count.ensures.found c.find_row-count.ensures.few c.requires.0.moves_few c.requires.7

pub set_length-requires : goal.set_length-requires
set_length-requires c = (omega (arith, c.requires.2, c.requires.3), c.requires.6, omega (arith, c.find_row-count.ensures.few, c.requires.0.moves_few))

pub overflow_add-result : goal.overflow_add-result
overflow_add-result c =
    let small = row_small _ _ _ _ _ _ _ c.find_row-count.new.room c.find_row-count.ensures.found c.find_row-count.ensures.few c.requires.0.moves_few c.requires.7 in
    search rules

pub returns : goal.returns
returns c =
    let room = c.find_row-count.new.room in
    row_done _ _ _ _ _ _ _ _ _ _ _ _ _ _ c.find_row-count.ensures.found (omega (arith, c.find_row-count.ensures.few, room.columns_long, c.requires.0.moves_few)) (room.columns_long ∙ sym room.values_long) c.set_length.ensures c.copy_row.ensures.0 c.copy_row.ensures.1
