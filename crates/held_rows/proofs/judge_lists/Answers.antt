use Rattle.std.proofs.Common.{ap}
use mathlib.Core.Bool.{not}
use Rattle.held_rows.proofs.Judging.{some_start, lengths_told, places_told, values_told, rows_told}
use Rattle.held_rows.proofs.judge_lists.Goals as goal

pub starts_right-requires : goal.starts_right-requires
starts_right-requires c = some_start _ _ _ (rw c.is_empty.ensures at c.if-is_empty-columns.false) c.count_rows-n.ensures

pub returns-then-is_empty-columns : goal.returns-then-is_empty-columns
returns-then-is_empty-columns c = lengths_told _ _ _ (rw c.is_empty.ensures at c.if-is_empty-columns.true)

pub returns-then-starts_right-columns_right : goal.returns-then-starts_right-columns_right
returns-then-starts_right-columns_right c =
    places_told _ _ _
    (rw c.is_empty.ensures at c.if-is_empty-columns.false)
    (rw (c.starts_right.ensures, c.columns_right.ensures, c.count_rows-n.ensures) at c.if-starts_right-columns_right.true)

pub returns-then-not-values_right : goal.returns-then-not-values_right
returns-then-not-values_right c =
    values_told _ _ _
    (rw c.is_empty.ensures at c.if-is_empty-columns.false)
    (rw (c.starts_right.ensures, c.columns_right.ensures, c.count_rows-n.ensures) at c.if-starts_right-columns_right.false)
    (ap not (rw c.values_right.ensures at c.if-not-values_right.true))

pub returns : goal.returns
returns c =
    rw c.count_rows-n.ensures
    (rows_told _ _ _
    (rw c.is_empty.ensures at c.if-is_empty-columns.false)
    (rw (c.starts_right.ensures, c.columns_right.ensures, c.count_rows-n.ensures) at c.if-starts_right-columns_right.false)
    (ap not (rw c.values_right.ensures at c.if-not-values_right.false)))
