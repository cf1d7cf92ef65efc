use Rattle.matrices.specs.Coupling.{su2_params}
use Rattle.matrices.proofs.coupling.KSParams.su2.Goals as goal

pub returns : goal.returns
unfolding su2_params
returns c = rw c.su2_params.ensures at c.checked.ensures
