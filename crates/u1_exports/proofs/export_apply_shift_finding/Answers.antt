use Rattle.std.proofs.Common.{refl}
use Rattle.shifts.specs.Shift.{shift_call, ShiftUnlisted}
use Rattle.mathematics.proofs.Signed.{back32}
use Rattle.exports.proofs.Findings.{unread_found, read_and_found}
use Rattle.u1_exports.proofs.export_apply_shift_finding.Goals as goal

pub returns-in-Ok : goal.returns-in-Ok
returns-in-Ok c =
    read_and_found _ _ (λ k L. ShiftUnlisted k L c.args.configuration.now c.args.shifted c.args.delta) _ c.store_place.type_inv c.in-Ok.ensures _ (rw (back32 c.args.delta c.ranges.delta.sfits) at c.apply_shift-answer.ensures.answered) (rw (back32 c.args.delta c.ranges.delta.sfits) at c.apply_shift-answer.ensures.finding) c.store_place.ensures.stored c.store_place.ensures.number

pub returns-in-Err : goal.returns-in-Err
unfolding shift_call
returns-in-Err c = unread_found _ _ (λ k L. ShiftUnlisted k L c.args.configuration.now c.args.shifted c.args.delta) _ c.signed_refusal.type_inv c.in-Err.ensures c.signed_refusal.ensures refl
