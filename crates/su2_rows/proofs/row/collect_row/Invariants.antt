use Rattle.std.proofs.Common.{◌≡◌, ◌+◌, ◌≤◌, length, take}
use Rattle.rows.specs.Entries.{pairs}
use Rattle.rows.specs.Row.{diagonal_first}
use Rattle.su2_rows.proofs.row.collect_row.Given as goal

abbrev pub invariant-loop-flip : goal.invariant-loop-flip
invariant-loop-flip l =
    (goal.iterator-loop-flip).can_next l.flip-iterator
    × (goal.iterator-loop-flip).is_finite l.flip-iterator
    × (take l.m (pairs l.row_columns l.row_values) ≡ diagonal_first l.i l.diagonal (take (length l.yielded) (pairs l.flips l.terms)))
    × (l.m ≤ length l.yielded + 1)
