use Rattle.std.proofs.Common.{refl}
use Rattle.enumeration.specs.Enumeration.{counted_call}
use Rattle.exports.proofs.OnSheets.{unread, read_and_called}
use Rattle.u1_exports.proofs.Small.{counted_small}
use Rattle.u1_exports.proofs.export_count_states.Goals as goal

pub signed_result-requires : goal.signed_result-requires
signed_result-requires c = counted_small _ _ _ c.count_states.ensures

pub returns-in-Ok : goal.returns-in-Ok
returns-in-Ok c = read_and_called _ _ c.signed_result.type_inv c.in-Ok.ensures c.count_states.ensures c.signed_result.ensures

pub returns-in-Err : goal.returns-in-Err
unfolding counted_call
returns-in-Err c = unread _ _ c.signed_refusal.type_inv c.in-Err.ensures c.signed_refusal.ensures refl
