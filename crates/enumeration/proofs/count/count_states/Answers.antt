use Rattle.enumeration.proofs.Bases.{count_told, count_refused}
use Rattle.enumeration.proofs.count.count_states.Goals as goal

pub returns-in_err-basis : goal.returns-in_err-basis
returns-in_err-basis c = count_refused _ _ _ c.in_err-basis.ensures _ c.from_residual.ensures.1

pub returns : goal.returns
returns c = count_told _ _ _ c.in_ok-basis.ensures _ c.count.ensures
