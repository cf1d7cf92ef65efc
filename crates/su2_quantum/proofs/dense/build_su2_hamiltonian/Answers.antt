use Rattle.std.proofs.Common.{sym, ◌∙◌, refl}
use Rattle.mathematics.proofs.Calls.{none, here, past, refuses, ends, both}
use Rattle.answers.proofs.Numbers.{number_positive}
use Rattle.answers.proofs.Passing.{call_passed}
use Rattle.triangles.proofs.SidesFound.{triangles_long}
use Rattle.matrices.specs.Coupling.{su2_right}
use Rattle.matrices.proofs.Weighing.{weights_fit, weights_refuse, past_weights}
use Rattle.su2_masks.proofs.Placing.{states_number, masks_are}
use Rattle.su2_masks.proofs.LoopsTold.{loops_refuse, past_loops, masks_known, states_counted, masks_front}
use Rattle.su2_quantum.specs.Dense.{su2_dense_call}
use Rattle.su2_quantum.proofs.DenseTelling.{long_enough}
use Rattle.su2_quantum.proofs.dense.build_su2_hamiltonian.Goals as goal

pub returns-in_err-f : goal.returns-in_err-f
unfolding su2_dense_call
returns-in_err-f c = call_passed _ _ c.from_residual.ensures.1 (su2_dense_call _ _ _ _ _ _) (loops_refuse _ _ c.in_err-f.ensures.number)

pub returns-in_err-accept_weights : goal.returns-in_err-accept_weights
unfolding su2_dense_call
returns-in_err-accept_weights c =
    call_passed _ _ c.from_residual-in_err-accept_weights.ensures.1 (su2_dense_call _ _ _ _ _ _)
    (past_loops _ c.in_ok-f.ensures.number (weights_refuse _ _ _ _ (rw (triangles_long c.args.c, ← c.is_su2.ensures) c.in_err-accept_weights.ensures) (number_positive _) _))

pub returns-then-states-n : goal.returns-then-states-n
unfolding su2_dense_call
returns-then-states-n c =
    let right = sym (rw (triangles_long c.args.c, ← c.is_su2.ensures) c.in_ok-accept_weights.ensures) in
    refuses (su2_dense_call _ _ _ _ _ _) (past_loops _ c.in_ok-f.ensures.number (past_weights _ _ _ _ right (here (rw (states_counted _ _ c.in_ok-f.ensures.loops) at c.if-states-n.true)))) refl

pub write_matrix-requires : goal.write_matrix-requires
write_matrix-requires c =
    let of = c.in_ok-f.ensures.loops in
    let room = long_enough _ _ _ c.if-states-n.false in (
      record { loops = of.of; few = of.few; states = states_counted _ _ of ∙ states_number _ _ of.of; long = room.1 },
      weights_fit _ (su2_right c.args.p) _ _ (sym (rw (triangles_long c.args.c, ← c.is_su2.ensures) c.in_ok-accept_weights.ensures)),
      (_, rw (c.loops.ensures, masks_are _ _ of.of) at c.write_masks.ensures),
    )

pub returns : goal.returns
unfolding su2_dense_call
returns c =
    let of = c.in_ok-f.ensures.loops in
    let right = sym (rw (triangles_long c.args.c, ← c.is_su2.ensures) c.in_ok-accept_weights.ensures) in
    ends (su2_dense_call _ _ _ _ _ _) (past_loops _ c.in_ok-f.ensures.number (past_weights _ _ _ _ right (past (rw (states_counted _ _ of) at c.if-states-n.false) none)))
    (states_counted _ _ of)
    (both (masks_front _ _ of _ _ (rw c.loops.ensures at c.write_masks.ensures)) c.write_matrix.ensures)
    (masks_known _ _ of).few
