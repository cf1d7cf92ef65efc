use Rattle.std.proofs.Common.{sym, arith}
use Rattle.mathematics.proofs.Bits.{bit_shifted}
use Rattle.su2_masks.proofs.place.bit_of.Goals as goal

pub returns : goal.returns
returns c = (sym (bit_shifted c.args.x c.args.i), omega arith)
