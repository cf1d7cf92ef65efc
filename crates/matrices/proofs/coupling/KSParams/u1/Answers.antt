use Rattle.matrices.specs.Coupling.{u1_params}
use Rattle.matrices.proofs.coupling.KSParams.u1.Goals as goal

pub returns : goal.returns
unfolding u1_params
returns c = rw c.u1_params.ensures at c.checked.ensures
