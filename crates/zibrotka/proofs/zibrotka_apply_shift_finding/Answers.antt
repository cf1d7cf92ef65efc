use Rattle.mathematics.proofs.Signed.{back32, back64}
use Rattle.zibrotka.proofs.zibrotka_apply_shift_finding.Goals as goal

-- the delta and the answer are passed on by their bits
pub returns : goal.returns
returns c =
    rw (back64 _ c.export_apply_shift_finding.type_inv) (rw (back32 c.args.delta c.ranges.delta.sfits) at c.export_apply_shift_finding.ensures)
