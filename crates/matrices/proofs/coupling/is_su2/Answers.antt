use Rattle.std.proofs.Common.{refl}
use Rattle.matrices.specs.Coupling.{su2_params, su2_right}
use Rattle.matrices.proofs.Couplings.{own_tests}
use Rattle.matrices.proofs.coupling.is_su2.Goals as goal

pub returns : goal.returns
unfolding su2_right su2_params
returns c = rw (c.in_range.ensures, c.eq.ensures, c.su2_params.ensures) (own_tests c.args.p (su2_params c.args.p.g_squared) refl)
