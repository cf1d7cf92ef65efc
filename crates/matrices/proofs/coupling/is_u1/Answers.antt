use Rattle.std.proofs.Common.{refl}
use Rattle.matrices.specs.Coupling.{u1_params, u1_right}
use Rattle.matrices.proofs.Couplings.{own_tests}
use Rattle.matrices.proofs.coupling.is_u1.Goals as goal

pub returns : goal.returns
unfolding u1_right u1_params
returns c = rw (c.in_range.ensures, c.eq.ensures, c.u1_params.ensures) (own_tests c.args.p (u1_params c.args.p.g_squared) refl)
