use Rattle.std.proofs.Common.{refl}
use Rattle.su2_quantum.specs.Dense.{su2_dense_call}
use Rattle.exports.proofs.OnSheets.{unread, read_and_called}
use Rattle.su2_exports.proofs.Given.{dense_chosen}
use Rattle.su2_exports.proofs.Small.{dense_small}
use Rattle.su2_exports.proofs.export_build_su2_hamiltonian.Goals as goal

pub signed_result-requires : goal.signed_result-requires
signed_result-requires c = dense_small _ _ _ _ _ _ _ _ c.build_su2_hamiltonian.ensures

pub returns-in-Ok : goal.returns-in-Ok
returns-in-Ok c = read_and_called _ _ c.signed_result.type_inv c.in-Ok.ensures (dense_chosen _ _ _ _ c.then_some-weights.ensures _ _ (rw c.coupling-p.ensures at c.build_su2_hamiltonian.ensures)) c.signed_result.ensures

pub returns-in-Err : goal.returns-in-Err
unfolding su2_dense_call
returns-in-Err c = unread _ _ c.signed_refusal.type_inv c.in-Err.ensures c.signed_refusal.ensures refl
