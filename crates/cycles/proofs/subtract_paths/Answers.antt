use Rattle.std.proofs.Common.{pos, ◌∙◌, arith}
use Rattle.cycles.proofs.Adding.{added_length}
use Rattle.cycles.proofs.CycleTables.{difference_more}
use Rattle.mathematics.proofs.Front.{front_end}
use Rattle.cycles.proofs.subtract_paths.Goals as goal

pub loop-e-preserved : goal.loop-e-preserved
loop-e-preserved c =
    difference_more c.args.first.now c.args.second.now c.args.row.now c.loop-e.row c.loop-e.e c.requires c.loop-e-test.true c.loop-e.invariant (omega arith) (omega arith)

pub returns : goal.returns
returns c = front_end _ _ _ c.loop-e.e (pos 0) (added_length _ _ _ ∙ c.requires.first) c.loop-e.invariant (omega arith)
