use Rattle.std.proofs.Common.{arith}
use Rattle.enumeration.proofs.Limits.{power_less}
use Rattle.enumeration.proofs.count_of_blocks.Goals as goal

pub returns : goal.returns
returns c = c.power.ensures.exact (omega (arith, power_less c.args.lambda c.args.n_free, c.requires.1))
