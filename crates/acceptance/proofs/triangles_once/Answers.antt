use Rattle.complex.specs.Complex.{simplices}
use Rattle.complex.proofs.Indexes.{keys_next}
use Rattle.acceptance.proofs.Once.{none_marked}
use Rattle.acceptance.proofs.triangles_once.Goals as goal

pub loop-t-init : goal.loop-t-init
unfolding simplices
loop-t-init c = none_marked

pub loop-t-preserved : goal.loop-t-preserved
loop-t-preserved c = rw (keys_next, ← c.triangle_key.ensures.0) (c.mark-so_far.ensures _ c.loop-t.invariant)
