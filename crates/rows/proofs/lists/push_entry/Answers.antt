use Rattle.rows.proofs.RowsWritten.{entry_pushed}
use Rattle.rows.proofs.lists.push_entry.Goals as goal

pub returns : goal.returns
returns c = rw c.from.ensures (entry_pushed _ _ _ _ _ c.requires.0 c.requires.1 c.args.taken)
