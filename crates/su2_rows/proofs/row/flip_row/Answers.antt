use Rattle.std.proofs.Common.{◌≡◌, ◌∙◌, length, arith}
use Rattle.su2_rows.proofs.Flipping.{flipped_differ, row_flipped, row_whole}
use Rattle.su2_rows.proofs.row.flip_row.Goals as goal

pub sort_row-requires : goal.sort_row-requires
sort_row-requires c =
    let are = row_flipped _ _ c.args.terms.now c.args.by c.flip_columns.auto.columns c.requires.0 c.flip_columns.ensures in
    (omega arith, c.flip_columns.auto.columns ∙ c.requires.0, rw are (flipped_differ _ _ c.requires.1))

pub returns : goal.returns
returns c =
    let are = row_flipped _ _ c.args.terms.now c.args.by c.flip_columns.auto.columns c.requires.0 c.flip_columns.ensures in
    let many : length c.sort_row.new.columns ≡ length c.flip_columns.new.columns = omega arith in
    let long : length c.sort_row.new.columns ≡ length c.sort_row.new.values = omega arith in
    rw (are, row_whole _ _ _ many long) at c.sort_row.ensures.sorted
