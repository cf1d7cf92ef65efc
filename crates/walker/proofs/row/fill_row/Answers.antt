use Rattle.std.proofs.Common.{arith}
use Rattle.walker.proofs.Adding.{may_times, filled_more, filled_end}
use Rattle.walker.proofs.row.fill_row.Goals as goal

pub loop-e-preserved : goal.loop-e-preserved
loop-e-preserved c =
    filled_more _ _ _ _ _ c.loop-e.e (may_times _ _ _ c.requires.0 c.requires.1) c.requires.2 c.loop-e.invariant c.loop-e-test.true _ c.plus_times.type_inv c.plus_times.ensures

pub returns : goal.returns
returns c = filled_end _ _ _ _ _ c.loop-e.e (may_times _ _ _ c.requires.0 c.requires.1) c.requires.2 c.loop-e.invariant (omega arith)
