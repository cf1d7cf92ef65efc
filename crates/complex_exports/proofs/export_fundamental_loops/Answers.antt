use Rattle.std.proofs.Common.{refl}
use Rattle.loops.specs.Loops.{loops_call}
use Rattle.exports.proofs.OnSheets.{unread, read_and_called}
use Rattle.complex_exports.proofs.export_fundamental_loops.Goals as goal

pub returns-in-Ok : goal.returns-in-Ok
returns-in-Ok c = read_and_called _ _ c.signed_result.type_inv c.in-Ok.ensures c.fundamental_loops.ensures c.signed_result.ensures

pub returns-in-Err : goal.returns-in-Err
unfolding loops_call
returns-in-Err c = unread _ _ c.signed_refusal.type_inv c.in-Err.ensures c.signed_refusal.ensures refl
