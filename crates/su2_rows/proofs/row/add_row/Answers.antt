use Rattle.std.proofs.Common.{◌≡◌, ◌≤◌, length, arith}
use Rattle.su2_rows.proofs.RowSteps.{found_count}
use Rattle.su2_rows.proofs.row.add_row.Goals as goal

pub append_row-requires : goal.append_row-requires
append_row-requires c =
    let found = c.collect_row-found in
    let long : length found.new.row_columns ≡ length found.new.row_values = omega arith in
    let room : found.result ≤ length found.new.row_columns = omega arith in
    let many = found_count _ _ _ _ long room found.ensures.0 in
    (omega arith, omega arith, omega arith, rw many c.requires.6.columns_fit, rw many c.requires.6.values_fit, rw many c.requires.6.small)
