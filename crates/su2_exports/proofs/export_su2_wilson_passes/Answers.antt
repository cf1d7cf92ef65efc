use Rattle.std.proofs.Common.{refl}
use Rattle.exports.specs.Exports.{value_lent}
use Rattle.exports.proofs.Answers.{lent_answers}
use Rattle.exports.proofs.OnSheets.{unread, read_and_called}
use Rattle.su2_loops.specs.Loop.{su2_passes_call}
use Rattle.su2_exports.proofs.export_su2_wilson_passes.Goals as goal

pub returns-in-Ok : goal.returns-in-Ok
returns-in-Ok c = read_and_called _ _ c.store_expectation.type_inv c.in-Ok.ensures (lent_answers c.su2_wilson_passes.ensures _ c.store_expectation.ensures.1) c.store_expectation.ensures.0

pub returns-in-Err : goal.returns-in-Err
unfolding value_lent su2_passes_call
returns-in-Err c = unread _ _ c.signed_refusal.type_inv c.in-Err.ensures c.signed_refusal.ensures refl
