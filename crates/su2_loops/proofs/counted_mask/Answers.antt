use Rattle.su2_loops.proofs.Paths.{put_more}
use Rattle.su2_loops.proofs.counted_mask.Goals as goal

pub loop-step-preserved : goal.loop-step-preserved
loop-step-preserved g c =
    let step = c.loop-step.step-index in
    record {
      small = c.put-mask.type_inv;
      made = put_more (goal.F-post g c.args.put) c.args.path.now step _ _ c.loop-step-test.true (c.requires.low step c.loop-step-test.true) c.loop-step.invariant.small c.loop-step.invariant.made c.put-mask.ensures;
    }
