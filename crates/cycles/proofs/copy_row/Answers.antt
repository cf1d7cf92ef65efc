use Rattle.std.proofs.Common.{◌*◌, ◌∙◌}
use Rattle.cycles.proofs.Rows.{row_copied}
use Rattle.cycles.proofs.copy_row.Goals as goal

pub returns : goal.returns
returns c = c.copy_within.ensures.after ∙ row_copied c.args.table.now (63 * c.args.from) (63 * c.args.to) c.args.n_edges
