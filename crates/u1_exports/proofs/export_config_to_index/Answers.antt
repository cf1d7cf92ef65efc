use Rattle.std.proofs.Common.{refl}
use Rattle.hilbert.specs.Index.{index_call}
use Rattle.exports.proofs.OnSheets.{unread, read_and_called}
use Rattle.u1_exports.proofs.Small.{index_small}
use Rattle.u1_exports.proofs.export_config_to_index.Goals as goal

pub signed_place-requires : goal.signed_place-requires
signed_place-requires c = index_small _ _ _ _ _ _ c.config_to_index.ensures.answered

pub returns-in-Ok : goal.returns-in-Ok
returns-in-Ok c = read_and_called _ _ c.signed_place.type_inv c.in-Ok.ensures c.config_to_index.ensures.answered c.signed_place.ensures

pub returns-in-Err : goal.returns-in-Err
unfolding index_call
returns-in-Err c = unread _ _ c.signed_refusal.type_inv c.in-Err.ensures c.signed_refusal.ensures refl
