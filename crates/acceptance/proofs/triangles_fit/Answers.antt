use Rattle.std.proofs.Common.{◌≡◌, refl, arith}
use Rattle.mathematics.specs.Tests.{every_entry}
use Rattle.complex.specs.Complex.{simplices}
use Rattle.complex.proofs.Indexes.{all_next}
use Rattle.acceptance.proofs.triangles_fit.Goals as goal

pub loop-t-init : goal.loop-t-init
unfolding every_entry simplices
loop-t-init c = λ es h. refl

pub loop-t-preserved : goal.loop-t-preserved
loop-t-preserved c = λ es h. rw (all_next, ← c.loop-t.invariant es h, ← c.triangle_fits-so_far.ensures es h)

pub returns : goal.returns
returns c =
    let past : c.loop-t.t ≡ c.args.c.now.n_triangles = omega arith in
    λ es h. rw past at (c.loop-t.invariant es h)
