use Rattle.std.proofs.Common.{arith}
use Rattle.mathematics.proofs.Signed.{back32}
use Rattle.walker.proofs.Narrowing.{difference_back}
use Rattle.lanczos.proofs.state_runs.gap.Goals as goal

pub returns : goal.returns
returns c =
    rw (
      back32 c.args.a c.ranges.a.sfits,
      back32 c.args.b c.ranges.b.sfits,
      difference_back c.args.a c.args.b (omega (arith, c.requires.0)) (omega (arith, c.requires.1)),
    )
