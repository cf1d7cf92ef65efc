use Rattle.mathematics.proofs.Signed.{back32}
use Rattle.recorded.proofs.Agreeing.{agrees_by}
use Rattle.u1_recorded.specs.Places.{shift_agrees}
use Rattle.u1_recorded.proofs.places.apply_shift_same.Goals as goal

-- the shift is passed on by its bits
pub returns : goal.returns
unfolding shift_agrees
returns c =
    agrees_by (rw (back32 c.args.delta c.ranges.delta.sfits) at c.export_apply_shift-answer.ensures) c.export_apply_shift-answer.type_inv c.ranges.told _ (rw (c.same.ensures, c.same-2.ensures))
