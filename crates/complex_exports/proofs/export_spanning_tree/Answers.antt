use Rattle.std.proofs.Common.{refl}
use Rattle.gauss_law.specs.Spanning.{tree_call}
use Rattle.exports.proofs.OnSheets.{unread, read_and_called}
use Rattle.complex_exports.proofs.export_spanning_tree.Goals as goal

pub returns-in-Ok : goal.returns-in-Ok
returns-in-Ok c = read_and_called _ _ c.signed_result.type_inv c.in-Ok.ensures c.spanning_tree.ensures c.signed_result.ensures

pub returns-in-Err : goal.returns-in-Err
unfolding tree_call
returns-in-Err c = unread _ _ c.signed_refusal.type_inv c.in-Err.ensures c.signed_refusal.ensures refl
