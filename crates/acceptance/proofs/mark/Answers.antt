use Rattle.std.proofs.Common.{◌/◌, ◌%◌, arith, get_or}
use Rattle.mathematics.proofs.Bits.{bit_shifted, power_shifted}
use Rattle.acceptance.proofs.Once.{marked_next}
use Rattle.acceptance.proofs.mark.Goals as goal

pub returns : goal.returns
returns c =
    let k = c.args.key in
    λ keys m.
    rw (power_shifted (k % 64) (omega arith), ← bit_shifted (get_or c.args.seen.now (k / 64) 0) (k % 64)) (marked_next _ keys _ k c.requires m)
