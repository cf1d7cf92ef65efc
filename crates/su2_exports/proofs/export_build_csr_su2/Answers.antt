use Rattle.std.proofs.Common.{refl}
use Rattle.su2_rows.specs.Rows.{su2_rows_call}
use Rattle.exports.proofs.OnSheets.{unread, read_and_called}
use Rattle.su2_exports.proofs.Small.{rows_small}
use Rattle.su2_exports.proofs.Given.{rows_chosen}
use Rattle.su2_exports.proofs.export_build_csr_su2.Goals as goal

pub signed_result-requires : goal.signed_result-requires
signed_result-requires c = rows_small _ c.in-Ok.ensures _ _ _ _ _ _ _ _ _ c.build_csr_su2.ensures

pub returns-in-Ok : goal.returns-in-Ok
returns-in-Ok c = read_and_called _ _ c.signed_result.type_inv c.in-Ok.ensures (rows_chosen _ _ _ _ c.then_some-weights.ensures _ _ _ _ (rw c.coupling-p.ensures at c.build_csr_su2.ensures)) c.signed_result.ensures

pub returns-in-Err : goal.returns-in-Err
unfolding su2_rows_call
returns-in-Err c = unread _ _ c.signed_refusal.type_inv c.in-Err.ensures c.signed_refusal.ensures refl
