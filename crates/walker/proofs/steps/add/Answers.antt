use Rattle.walker.proofs.Adding.{added_more, added_end}
use Rattle.std.proofs.Common.{arith}
use Rattle.walker.proofs.steps.add.Goals as goal

pub loop-e-preserved : goal.loop-e-preserved
loop-e-preserved c = added_more _ _ _ _ _ c.requires c.loop-e.invariant c.loop-e-test.true _ c.plus_times.type_inv c.plus_times.ensures

pub returns : goal.returns
returns c = added_end _ _ _ _ c.loop-e.e c.requires c.loop-e.invariant (omega arith)
