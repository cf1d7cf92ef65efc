use Rattle.std.proofs.Common.{length, sym, ap, ◌∙◌, rules}
use lib.ListN.{length-append}
use Rattle.std.proofs.lemmas.Slice.Zip.{zip_turn}
use lib.Ieee.{nan}
use Rattle.matrices.proofs.Literals.{zero}
use Rattle.su2_loops.specs.Loop.{mask_sum}
use Rattle.su2_loops.proofs.Parity.{parity_sign_is}
use Rattle.su2_loops.proofs.Shared.{sum_step}
use Rattle.su2_loops.proofs.mask_sum.Goals as goal

pub loop-amplitude-init : goal.loop-amplitude-init
unfolding mask_sum
loop-amplitude-init c = zero

pub loop-amplitude-preserved : goal.loop-amplitude-preserved
loop-amplitude-preserved c =
    let turn = zip_turn c.args.vector.now c.args.states.now c.loop-amplitude.yielded c.into_iter-amplitude-iterator.result c.loop-amplitude.amplitude-iterator c.next.new.self _ (search rules) (search rules) c.loop-amplitude.yielded_by _ c.in-Some.is c.next.ensures.steps in
    sum_step _ _ _ (length c.loop-amplitude.yielded) _ _ _ _ c.loop-amplitude.invariant (turn.2 nan) (turn.3 0) (c.sign_of-sign.ensures.value ∙ (parity_sign_is _).float)
    ∙ ap (mask_sum c.args.vector.now c.args.states.now c.args.mask) (sym (length-append c.loop-amplitude.yielded _))
