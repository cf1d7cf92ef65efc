use Rattle.std.proofs.Common.{refl}
use Rattle.law_check.specs.Law.{law_call}
use Rattle.exports.specs.Exports.{none_found}
use Rattle.exports.proofs.OnSheets.{unread, read_and_called, none_answered}
use Rattle.u1_exports.proofs.export_check_gauss_law.Goals as goal

pub returns-in-Ok : goal.returns-in-Ok
returns-in-Ok c = read_and_called _ _ c.signed_unlawful.type_inv c.in-Ok.ensures (none_answered c.check_gauss_law.ensures) c.signed_unlawful.ensures

pub returns-in-Err : goal.returns-in-Err
unfolding law_call none_found
returns-in-Err c = unread _ _ c.signed_refusal.type_inv c.in-Err.ensures c.signed_refusal.ensures refl
