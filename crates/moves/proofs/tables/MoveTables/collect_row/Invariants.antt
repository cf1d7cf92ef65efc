use Rattle.std.proofs.Common.{length}
use Rattle.rows.specs.Entries.{pairs}
use Rattle.moves.specs.Numbers.{number_in}
use Rattle.moves.specs.Views.{moves_of}
use Rattle.moves.proofs.Collecting.{Gathered}
use Rattle.moves.proofs.tables.MoveTables.collect_row.Given as goal

abbrev pub invariant-loop-k : goal.invariant-loop-k
invariant-loop-k l =
    Gathered (moves_of l.self) l.self.lambda (number_in l.words) (length l.words) l.row.state.now l.row.number l.fn.pointers l.row.i l.row.diagonal l.k l.m l.pointers (pairs l.row_columns l.row_values)
