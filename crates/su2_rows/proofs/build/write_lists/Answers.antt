use Rattle.std.proofs.Common.{◌≤◌, length, arith}
use Rattle.complex.specs.Complex.{complex_of}
use Rattle.su2_rows.proofs.ListedRows.{rows_fit, rows_written}
use Rattle.su2_rows.proofs.TableRows.{tables_front}
use Rattle.su2_rows.proofs.build.write_lists.Goals as goal

pub write_rows-requires : goal.write_rows-requires
write_rows-requires c =
    let few : length (complex_of c.args.c).triangles ≤ 256 = c.requires.0.loops.of.accepted.few_triangles in
    let front = tables_front _ c.of-flips.ensures.1 (omega (arith, few)) (omega (arith, few)) c.of-flips.ensures.0 in
    (rw front.1 (rows_fit _ _ _ _ _ _ _ c.requires.0 _ _ _ front.0 _ c.requires.2.0 c.requires.2.1), front.2)

pub returns : goal.returns
returns c =
    let few : length (complex_of c.args.c).triangles ≤ 256 = c.requires.0.loops.of.accepted.few_triangles in
    let front = tables_front _ c.of-flips.ensures.1 (omega (arith, few)) (omega (arith, few)) c.of-flips.ensures.0 in
    rows_written _ _ _ _ _ _ _ c.requires.0 _ _ _ front.0 _ c.requires.2.0 c.requires.2.1 _ _ _ _ _ _ (rw front.1 at c.write_rows.ensures)
