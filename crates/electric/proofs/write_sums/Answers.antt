use Rattle.std.proofs.Common.{◌≡◌, length, arith, rules, pos, get_or, ◌∙◌, ap, replicate, take}
use lib.ListN.{length-take, length-drop}
use Rattle.matrices.proofs.Literals.{zero}
use Rattle.hilbert.specs.Search.{row}
use Rattle.hilbert.proofs.Searching.{row_part, row_room}
use Rattle.electric.specs.Electric.{field_sum}
use Rattle.electric.proofs.FieldSums.{sum_next}
use Rattle.electric.proofs.Beginnings.{begins_same, begins_zero}
use Rattle.electric.proofs.write_sums.Goals as goal

pub loop-i-init : goal.loop-i-init
unfolding field_sum
loop-i-init c = begins_zero _ _ _ c.requires.3 (c.fill.ensures.after (λ y h. h) ∙ ap (replicate (length (take c.args.m c.args.res.now))) zero)

pub overflow_mul-at : goal.overflow_mul-at
overflow_mul-at c = let h = row_room _ c.args.m c.loop-i.i _ c.requires.0 c.requires.1 c.loop-i-test.true c.requires.2 in search rules

pub add_state-requires : goal.add_state-requires
add_state-requires c =
    let room = row_room _ c.args.m c.loop-i.i _ c.requires.0 c.requires.1 c.loop-i-test.true c.requires.2 in
    let long : length (row c.args.m c.args.list.now c.loop-i.i) ≡ c.args.m = rw (length-take, length-drop) (omega (arith, room)) in
    rw (row_part c.args.list.now c.args.m c.loop-i.i, long, c.loop-i.invariant.long) c.requires.3

pub loop-i-preserved : goal.loop-i-preserved
loop-i-preserved c =
    let room = row_room _ c.args.m c.loop-i.i _ c.requires.0 c.requires.1 c.loop-i-test.true c.requires.2 in
    let long : length (row c.args.m c.args.list.now c.loop-i.i) ≡ c.args.m = rw (length-take, length-drop) (omega (arith, room)) in
    begins_same _ _ c.args.m c.args.res.now _ (λ e h. sum_next c.args.amplitudes.now (λ k. get_or (row c.args.m c.args.list.now k) e (pos 0)) c.loop-i.i)
    ((rw (row_part c.args.list.now c.args.m c.loop-i.i, long) at c.add_state.ensures) _ c.args.res.now c.loop-i.invariant)
