use Rattle.std.proofs.Common.{refl}
use Rattle.su2_masks.specs.Basis.{su2_basis_call}
use Rattle.exports.proofs.OnSheets.{unread, read_and_called}
use Rattle.su2_exports.proofs.Small.{basis_small}
use Rattle.su2_exports.proofs.export_su2_basis.Goals as goal

pub signed_result-requires : goal.signed_result-requires
signed_result-requires c = basis_small _ _ _ _ c.su2_basis.ensures

pub returns-in-Ok : goal.returns-in-Ok
returns-in-Ok c = read_and_called _ _ c.signed_result.type_inv c.in-Ok.ensures c.su2_basis.ensures c.signed_result.ensures

pub returns-in-Err : goal.returns-in-Err
unfolding su2_basis_call
returns-in-Err c = unread _ _ c.signed_refusal.type_inv c.in-Err.ensures c.signed_refusal.ensures refl
