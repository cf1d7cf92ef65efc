use Rattle.std.proofs.Common.{sym, ◌∙◌}
use Rattle.loops.proofs.LoopReads.{listed}
use Rattle.loops.proofs.climbing.RootedTree.total_steps.Goals as goal

pub loop-f-init : goal.loop-f-init
loop-f-init c =
    let all = listed c.args.self.now.parented (c.as_slice-f-items.ensures ∙ c.requires.stands) in
    record { listed = all; counted = sym all.none }
