use Rattle.std.proofs.Common.{◌≡◌, ◌<◌, List, ℕ, length}
use Rattle.rows.specs.Entries.{pairs}
use Rattle.rows.specs.Row.{ColumnsDiffer, SameEntries}
use Rattle.rows.specs.RowLists.{rows_to, SortedWritten}
use Rattle.su2_rows.specs.Rows.{flip_entries, table_entries}
use Rattle.su2_rows.proofs.fill.write_rows.Given as goal

abbrev pub invariant-loop-i : goal.invariant-loop-i
invariant-loop-i l =
    let places = l.initial.places in
    let terms = l.initial.terms in
    let entries = table_entries l.electric l.states places terms (length places) in
    record {
      columns_long : length l.row_columns ≡ 257;
      values_long : length l.row_values ≡ 257;
      begins : l.at ≡ length (rows_to entries l.i);
      written : (old : List ℕ) → length l.initial.starts ≡ length old → SortedWritten entries 0 0 old l.initial.columns l.initial.values l.initial.starts l.initial.columns l.initial.values
          → SortedWritten entries l.i l.at old l.initial.columns l.initial.values l.starts l.columns l.values;
      same : SameEntries (flip_entries places terms (length places) l.i) (pairs l.places l.terms);
      differ : l.i < l.n → ColumnsDiffer (pairs l.places l.terms);
    }
