use Rattle.std.proofs.Common.{rules}
use Rattle.su2_rows.proofs.ListedRows.{entries_few}
use Rattle.su2_rows.proofs.build.entries_number.Goals as goal

pub overflow_mul-result : goal.overflow_mul-result
overflow_mul-result c =
    let product = entries_few _ _ c.requires.0 c.requires.1 c.requires.2 in
    let most = product.0 in
    search rules

pub overflow_sub-result : goal.overflow_sub-result
overflow_sub-result c =
    let product = entries_few _ _ c.requires.0 c.requires.1 c.requires.2 in
    let some = product.1 in
    search rules
