use Rattle.std.proofs.Common.{refl}
use Rattle.shifts.specs.Shift.{shift_call}
use Rattle.mathematics.proofs.Signed.{back32}
use Rattle.exports.proofs.OnSheets.{unread, read_and_called}
use Rattle.u1_exports.proofs.export_apply_shift.Goals as goal

pub returns-in-Ok : goal.returns-in-Ok
returns-in-Ok c =
    read_and_called _ _ c.signed_place.type_inv c.in-Ok.ensures (rw (back32 c.args.delta c.ranges.delta.sfits) at c.apply_shift.ensures.answered) c.signed_place.ensures

pub returns-in-Err : goal.returns-in-Err
unfolding shift_call
returns-in-Err c = unread _ _ c.signed_refusal.type_inv c.in-Err.ensures c.signed_refusal.ensures refl
