use Rattle.csr.specs.Fill.{WalkAt}
use Rattle.csr.specs.Views.{walk_by}
use Rattle.csr.proofs.fill.RowTables.write_rows.Given as goal

abbrev pub invariant-loop-i : goal.invariant-loop-i
invariant-loop-i l = WalkAt (walk_by l.self l.fn.words) l.fn.words l.fn.columns l.fn.values l.i l.at l.room.pointers l.words l.columns l.values
