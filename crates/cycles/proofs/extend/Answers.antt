use Rattle.std.proofs.Common.{◌*◌, ◌∙◌}
use Rattle.complex.specs.Complex.{entries}
use Rattle.mathematics.proofs.Signed.{back8}
use Rattle.cycles.specs.Cycles.{extended}
use Rattle.cycles.proofs.PathTables.{toward_across}
use Rattle.cycles.proofs.extend.Goals as goal

pub copy_row-requires : goal.copy_row-requires
copy_row-requires c = rw c.across-parent.ensures (c.requires.3, c.requires.2, c.requires.4, c.requires.1, c.requires.6)

pub returns : goal.returns
unfolding extended entries
returns c =
    let sides = entries c.args.c.now.edges (2 * c.args.e) 2 in
    let way = (rw c.across-parent.ensures at c.direction.ensures) ∙ toward_across sides c.args.w c.requires.4 c.requires.5 in
    rw (back8 c.direction.result c.direction.type_inv, way, c.copy_row.ensures, c.across-parent.ensures)
