use Rattle.std.proofs.Common.{◌≡◌, refl, arith, add-one}
use Rattle.lanczos.specs.Matvec.{with_hit}
use Rattle.lanczos.specs.Walk.{run_added}
use Rattle.lanczos.proofs.walk.add_run.Goals as goal

pub loop-k-init : goal.loop-k-init
unfolding run_added
loop-k-init c = refl

pub loop-k-preserved : goal.loop-k-preserved
unfolding run_added with_hit
loop-k-preserved c = rw (add-one c.loop-k.k, ← c.loop-k.invariant)

pub returns : goal.returns
returns c =
    let past : c.loop-k.k ≡ c.args.count = omega arith in
    rw past at c.loop-k.invariant
