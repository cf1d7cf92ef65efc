use Rattle.std.proofs.Common.{refl, lt-ltb, le-ltb}
use Rattle.mathematics.proofs.Calls.{none, here, past, refuses, ends}
use Rattle.answers.proofs.Passing.{call_passed}
use Rattle.su2_masks.specs.Basis.{su2_basis_call}
use Rattle.su2_masks.proofs.LoopsTold.{loops_refuse, past_loops, masks_known, states_counted, masks_front}
use Rattle.su2_masks.proofs.su2_basis.Goals as goal

pub returns-in_err-f : goal.returns-in_err-f
unfolding su2_basis_call
returns-in_err-f c = call_passed _ _ c.from_residual.ensures.1 (su2_basis_call _ _) (loops_refuse _ _ c.in_err-f.ensures.number)

pub returns-then-states-count : goal.returns-then-states-count
unfolding su2_basis_call
returns-then-states-count c =
    let loops = c.in_ok-f.ensures in
    refuses _ (past_loops _ loops.number (here (lt-ltb _ _ (rw (states_counted _ _ loops.loops) at c.if-states-count.true)))) refl

pub returns : goal.returns
unfolding su2_basis_call
returns c =
    let loops = c.in_ok-f.ensures in
    ends _ (past_loops _ loops.number (past (le-ltb _ _ (rw (states_counted _ _ loops.loops) at c.if-states-count.false)) none))
    (states_counted _ _ loops.loops) (masks_front _ _ loops.loops _ _ (rw c.loops.ensures at c.write_masks.ensures)) (masks_known _ _ loops.loops)
