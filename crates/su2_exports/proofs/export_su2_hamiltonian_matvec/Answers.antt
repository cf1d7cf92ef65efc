use Rattle.std.proofs.Common.{refl}
use Rattle.su2_products.specs.Product.{su2_product_call}
use Rattle.exports.proofs.OnSheets.{unread, read_and_called}
use Rattle.su2_exports.proofs.Given.{product_chosen}
use Rattle.su2_exports.proofs.Small.{product_small}
use Rattle.su2_exports.proofs.export_su2_hamiltonian_matvec.Goals as goal

pub signed_result-requires : goal.signed_result-requires
signed_result-requires c = product_small _ _ _ _ _ _ _ _ _ c.su2_hamiltonian_matvec.ensures

pub returns-in-Ok : goal.returns-in-Ok
returns-in-Ok c = read_and_called _ _ c.signed_result.type_inv c.in-Ok.ensures (product_chosen _ _ _ _ c.then_some-weights.ensures _ _ _ (rw c.coupling-p.ensures at c.su2_hamiltonian_matvec.ensures)) c.signed_result.ensures

pub returns-in-Err : goal.returns-in-Err
unfolding su2_product_call
returns-in-Err c = unread _ _ c.signed_refusal.type_inv c.in-Err.ensures c.signed_refusal.ensures refl
