use Rattle.su2_masks.proofs.LoopsTold.{record_told}
use Rattle.su2_masks.proofs.accepted.accepted_loops.Goals as goal

pub returns-in_err-accept-clause-number : goal.returns-in_err-accept-clause-number
returns-in_err-accept-clause-number c = record_told _ _ _ c.from_residual.ensures.1 c.in_err-accept.ensures
