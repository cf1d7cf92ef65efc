use Rattle.std.proofs.Common.{refl, ◌∙◌}
use Rattle.mathematics.proofs.Signed.{back64}
use Rattle.matrices.specs.Coupling.{coupling_call}
use Rattle.exports.specs.Exports.{signed, three_floats}
use Rattle.exports.proofs.Signs.{exports}
use Rattle.exports.proofs.Answers.{stored_refuses, stored_ends}
use Rattle.exports.proofs.store_params.Goals as goal

pub returns-in-Ok : goal.returns-in-Ok
unfolding signed
returns-in-Ok c g own h = exports (stored_ends (coupling_call g own) three_floats _ (rw c.in-Ok.is at h) refl) refl

pub returns-in-Err : goal.returns-in-Err
unfolding signed
returns-in-Err c g own h =
    exports (stored_refuses (coupling_call g own) three_floats _ (rw c.in-Err.is at h)) (back64 _ c.signed_refusal.type_inv ∙ c.signed_refusal.ensures)
