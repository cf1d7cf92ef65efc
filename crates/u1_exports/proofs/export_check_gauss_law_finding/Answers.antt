use Rattle.std.proofs.Common.{refl}
use Rattle.law_check.specs.Law.{law_call}
use Rattle.exports.specs.Exports.{found_lent}
use Rattle.exports.specs.Findings.{law_numbers}
use Rattle.exports.proofs.OnSheets.{unread, read_and_called}
use Rattle.exports.proofs.Answers.{found_answers}
use Rattle.u1_exports.proofs.export_check_gauss_law_finding.Goals as goal

pub returns-in-Ok : goal.returns-in-Ok
returns-in-Ok c =
    read_and_called _ _ c.store_unlawful.type_inv c.in-Ok.ensures (found_answers c.check_gauss_law.ensures law_numbers _ c.store_unlawful.ensures.1) c.store_unlawful.ensures.0

pub returns-in-Err : goal.returns-in-Err
unfolding law_call found_lent
returns-in-Err c = unread _ _ c.signed_refusal.type_inv c.in-Err.ensures c.signed_refusal.ensures refl
