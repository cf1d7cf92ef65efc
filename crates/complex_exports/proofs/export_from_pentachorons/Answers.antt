use Rattle.pentachora.specs.Pentachora.{pentachora_call}
use Rattle.exports.specs.Exports.{signed}
use Rattle.exports.proofs.Signs.{told}
use Rattle.exports.proofs.Answers.{second_refuses, second_ends}
use Rattle.complex_exports.proofs.Parts.{few_edges}
use Rattle.complex_exports.proofs.export_from_pentachorons.Goals as goal

pub value-requires : goal.value-requires
value-requires c = few_edges _ _ _ _ c.in-Ok.ensures

pub returns-in-Ok : goal.returns-in-Ok
unfolding signed
returns-in-Ok c = told (second_ends (pentachora_call _ _ _ _) _ c.in-Ok.ensures) c.value.type_inv c.value.ensures

pub returns-in-Err : goal.returns-in-Err
unfolding signed
returns-in-Err c = told (second_refuses (pentachora_call _ _ _ _) _ c.in-Err.ensures) c.signed_refusal.type_inv c.signed_refusal.ensures
