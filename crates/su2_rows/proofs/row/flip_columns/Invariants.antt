use Rattle.su2_rows.proofs.Flipping.{Flipped}
use Rattle.su2_rows.proofs.row.flip_columns.Given as goal

abbrev pub invariant-loop-column : goal.invariant-loop-column
invariant-loop-column l = Flipped l.initial.columns l.by l.column-index l.columns
