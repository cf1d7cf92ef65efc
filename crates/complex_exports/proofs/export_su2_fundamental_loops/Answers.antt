use Rattle.std.proofs.Common.{refl}
use Rattle.loops.specs.Loops.{su2_loops_call}
use Rattle.exports.proofs.OnSheets.{unread, read_and_called}
use Rattle.complex_exports.proofs.export_su2_fundamental_loops.Goals as goal

pub returns-in-Ok : goal.returns-in-Ok
returns-in-Ok c = read_and_called _ _ c.signed_result.type_inv c.in-Ok.ensures c.su2_fundamental_loops.ensures c.signed_result.ensures

pub returns-in-Err : goal.returns-in-Err
unfolding su2_loops_call
returns-in-Err c = unread _ _ c.signed_refusal.type_inv c.in-Err.ensures c.signed_refusal.ensures refl
