use Rattle.std.proofs.Common.{refl, sym, ap, ◌∙◌, lt-ltb, le-ltb, arith}
use Rattle.mathematics.proofs.Calls.{none, here, past, refuses, ends}
use Rattle.answers.proofs.Numbers.{number_positive}
use Rattle.answers.proofs.Passing.{call_passed}
use Rattle.gauss_law.proofs.Spanned.{edges_long}
use Rattle.su2_masks.proofs.Placing.{masks_are}
use Rattle.su2_masks.proofs.LoopsTold.{loops_refuse, past_loops, masks_known, states_counted, masks_front}
use Rattle.su2_loops.specs.Loop.{su2_expectation}
use Rattle.su2_loops.proofs.Judging.{told_as, loop_fits, loop_refuses, past_loop}
use Rattle.su2_loops.proofs.Shared.{sum_told}
use Rattle.su2_loops.proofs.loop_expectation.Goals as goal

pub returns-in_err-f : goal.returns-in_err-f
returns-in_err-f g c counts are = call_passed _ _ c.from_residual.ensures.1 _ (loops_refuse _ _ c.in_err-f.ensures.number)

-- the amplitudes and the path are judged by the definition's own tests
pub returns-in_err-accept_loop : goal.returns-in_err-accept_loop
returns-in_err-accept_loop g c counts are =
    let loops = c.in_ok-f.ensures in
    let judged = told_as _ _ _ _ _ _ _ c.in_err-accept_loop.ensures (states_counted _ _ loops.loops) (edges_long c.args.c) in
    call_passed _ _ c.from_residual-in_err-accept_loop.ensures.1 _ (past_loops _ loops.number (loop_refuses _ _ _ _ judged (number_positive _) _))

pub returns-then-states-n : goal.returns-then-states-n
returns-then-states-n g c counts are =
    let loops = c.in_ok-f.ensures in
    let judged = told_as _ _ _ _ _ _ _ c.in_ok-accept_loop.ensures (states_counted _ _ loops.loops) (edges_long c.args.c) in
    refuses _ (past_loops _ loops.number (past_loop _ _ _ _ (sym judged) (here (lt-ltb _ _ (rw (states_counted _ _ loops.loops) at c.if-states-n.true))))) refl

pub counted_mask-requires-clause-low : goal.counted_mask-requires-clause-low
counted_mask-requires-clause-low g c =
    let edges = c.in_ok-f.ensures.loops.of.accepted.few_edges in
    λ k h. omega (arith, (loop_fits _ _ _ _ (sym c.in_ok-accept_loop.ensures)).1 k h, edges_long c.args.c, edges)

pub mask_sum-requires : goal.mask_sum-requires
mask_sum-requires g c = omega (arith, (loop_fits _ _ _ _ (sym c.in_ok-accept_loop.ensures)).0, c.write_masks.auto.states)

pub returns : goal.returns
returns g c counts are =
    let loops = c.in_ok-f.ensures in
    let number = states_counted _ _ loops.loops in
    let judged = told_as _ _ _ _ _ _ _ c.in_ok-accept_loop.ensures number (edges_long c.args.c) in
    let states = rw (c.loops.ensures, masks_are _ _ loops.loops.of) at c.write_masks.ensures in
    ends _ (past_loops _ loops.number (past_loop _ _ _ _ (sym judged) (past (le-ltb _ _ (rw number at c.if-states-n.false)) none)))
    (sum_told _ loops.loops.of.accepted _ _ _ _ states _ _ c.mask_sum.ensures ((loop_fits _ _ _ _ (sym judged)).0)
    ∙ ap (su2_expectation _ _) (are.counted _ c.counted_mask.ensures))
    (masks_front _ _ loops.loops _ _ (rw c.loops.ensures at c.write_masks.ensures))
    (masks_known _ _ loops.loops).few
