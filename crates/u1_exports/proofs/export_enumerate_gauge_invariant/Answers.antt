use Rattle.std.proofs.Common.{refl}
use Rattle.enumeration.specs.Enumeration.{enumerated_call}
use Rattle.exports.proofs.OnSheets.{unread, read_and_called}
use Rattle.u1_exports.proofs.Small.{listed_small}
use Rattle.u1_exports.proofs.export_enumerate_gauge_invariant.Goals as goal

pub signed_result-requires : goal.signed_result-requires
signed_result-requires c = listed_small _ _ _ _ _ c.enumerate_gauge_invariant.ensures.answered

pub returns-in-Ok : goal.returns-in-Ok
returns-in-Ok c = read_and_called _ _ c.signed_result.type_inv c.in-Ok.ensures c.enumerate_gauge_invariant.ensures.answered c.signed_result.ensures

pub returns-in-Err : goal.returns-in-Err
unfolding enumerated_call
returns-in-Err c = unread _ _ c.signed_refusal.type_inv c.in-Err.ensures c.signed_refusal.ensures refl
