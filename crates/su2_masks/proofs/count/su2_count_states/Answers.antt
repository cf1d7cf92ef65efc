use Rattle.std.proofs.Common.{refl}
use Rattle.mathematics.proofs.Calls.{none, ends}
use Rattle.answers.proofs.Passing.{call_passed}
use Rattle.su2_masks.specs.Basis.{su2_counted_call}
use Rattle.su2_masks.proofs.LoopsTold.{loops_refuse, past_loops, masks_known, states_counted}
use Rattle.su2_masks.proofs.count.su2_count_states.Goals as goal

pub returns-in_err-f : goal.returns-in_err-f
unfolding su2_counted_call
returns-in_err-f c = call_passed _ _ c.from_residual.ensures.1 (su2_counted_call _) (loops_refuse _ _ c.in_err-f.ensures.number)

pub returns : goal.returns
unfolding su2_counted_call
returns c =
    let loops = c.in_ok-f.ensures in
    ends (su2_counted_call _) (past_loops _ loops.number none) (states_counted _ _ loops.loops) refl (masks_known _ _ loops.loops)
