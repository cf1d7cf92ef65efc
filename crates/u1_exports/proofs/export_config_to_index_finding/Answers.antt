use Rattle.std.proofs.Common.{refl}
use Rattle.hilbert.specs.Index.{index_call}
use Rattle.hilbert.specs.Basis.{Unlisted}
use Rattle.u1_exports.proofs.Small.{index_small}
use Rattle.exports.proofs.Findings.{unread_found, read_and_found}
use Rattle.u1_exports.proofs.export_config_to_index_finding.Goals as goal

pub store_place-requires : goal.store_place-requires
store_place-requires c = index_small _ _ _ _ _ _ c.config_to_index-answer.ensures.answered

pub returns-in-Ok : goal.returns-in-Ok
returns-in-Ok c =
    read_and_found _ _ (λ k L. Unlisted k L c.args.configuration.now) _ c.store_place.type_inv c.in-Ok.ensures _ c.config_to_index-answer.ensures.answered c.config_to_index-answer.ensures.finding c.store_place.ensures.stored c.store_place.ensures.number

pub returns-in-Err : goal.returns-in-Err
unfolding index_call
returns-in-Err c = unread_found _ _ (λ k L. Unlisted k L c.args.configuration.now) _ c.signed_refusal.type_inv c.in-Err.ensures c.signed_refusal.ensures refl
