use Rattle.complex_exports.proofs.Small.{text_small}
use Rattle.complex_exports.proofs.export_refusal_text.Goals as goal

pub signed_result-requires : goal.signed_result-requires
signed_result-requires c = text_small _ _ _ _ c.refusal_text.ensures
