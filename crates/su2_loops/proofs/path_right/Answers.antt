use Rattle.std.proofs.Common.{refl, arith}
use Rattle.mathematics.specs.Tests.{every_entry}
use Rattle.mathematics.proofs.Tests.{all_last}
use Rattle.mathematics.proofs.Front.{take_next}
use Rattle.su2_loops.specs.Loop.{path_right}
use Rattle.su2_loops.proofs.path_right.Goals as goal

pub loop-edge-init : goal.loop-edge-init
unfolding path_right every_entry
loop-edge-init c = refl

pub loop-edge-preserved : goal.loop-edge-preserved
unfolding path_right
loop-edge-preserved c = rw (take_next c.args.path.now c.loop-edge.edge-index 0 (omega arith), all_last, ← c.loop-edge.invariant, c.from.ensures)
