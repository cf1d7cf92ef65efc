use Rattle.std.proofs.Common.{arith}
use mathlib.Core.Path.{refl}
use lib.Ieee.{nan}
use Rattle.mathematics.specs.Tests.{every_entry}
use Rattle.mathematics.proofs.Tests.{all_last}
use Rattle.mathematics.proofs.Front.{take_next}
use Rattle.matrices.proofs.weights.all_within.Goals as goal

pub loop-x-init : goal.loop-x-init
unfolding every_entry
loop-x-init c = refl

pub loop-x-preserved : goal.loop-x-preserved
loop-x-preserved c =
    rw (take_next c.args.list.now c.loop-x.x-index nan (omega arith), all_last, ← c.loop-x.invariant, c.within-so_far.ensures)
