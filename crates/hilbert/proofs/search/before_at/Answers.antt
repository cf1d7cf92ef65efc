use Rattle.hilbert.proofs.Searching.{row_part}
use Rattle.hilbert.proofs.search.before_at.Goals as goal

pub returns : goal.returns
returns c = rw row_part at c.row_before.ensures
