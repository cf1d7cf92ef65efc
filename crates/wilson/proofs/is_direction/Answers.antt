use Rattle.std.proofs.Common.{arith, pos, w8}
use lib.IntN.{negsuc}
use Rattle.mathematics.proofs.Signed.{equal_bits}
use Rattle.wilson.proofs.is_direction.Goals as goal

pub returns : goal.returns
returns c =
    rw (equal_bits w8 c.args.d (pos 1) c.ranges.d (record { sfits = omega arith }), equal_bits w8 c.args.d (negsuc 0) c.ranges.d (record { sfits = omega arith }))
