use Rattle.std.proofs.Common.{◌≡◌, refl, arith}
use Rattle.su2_even_sets.proofs.Tables.{mapped_none, mapped_more, separate_kept}
use Rattle.su2_even_sets.proofs.Forest.separate.Goals as goal

pub loop-v-init : goal.loop-v-init
loop-v-init c = mapped_none _ _ refl

pub loop-v-preserved : goal.loop-v-preserved
loop-v-preserved c = mapped_more (λ v. v) c.loop-v.v _ c.loop-v.v c.loop-v.invariant (omega (arith, c.loop-v.invariant.long)) refl

pub returns : goal.returns
returns c =
    let past : c.loop-v.v ≡ 64 = omega (arith, c.loop-v.invariant.long) in
    separate_kept _ (rw past at c.loop-v.invariant)
