use Rattle.rows.proofs.RowsWritten.{row_copied}
use Rattle.rows.proofs.lists.append_row.Goals as goal

pub returns : goal.returns
returns c = rw (c.copy_row.ensures.0, c.copy_row.ensures.1) (row_copied _ _ _ _ _ _ _ _ c.requires.0 c.requires.1)
