use Rattle.std.proofs.Common.{rules}
use Rattle.su2_loops.specs.Loop.{su2_loop_call}
use Rattle.su2_loops.proofs.Paths.{named_count}
use Rattle.su2_loops.proofs.su2_wilson_loop.Goals as goal

pub returns : goal.returns
unfolding su2_loop_call
returns c = c.loop_expectation.ensures _ (named_count c.args.path.now (λ m e next low small put. search rules))
