use Rattle.std.proofs.Common.{sym}
use Rattle.triangles.proofs.SidesFound.{triangles_long}
use Rattle.su2_rows.proofs.tables.Flips.of.Goals as goal

pub returns : goal.returns
returns c = (c.write_tables.ensures, sym (triangles_long c.args.c))
