use Rattle.complex_exports.proofs.Small.{sheet_small}
use Rattle.complex_exports.proofs.export_make_sheet.Goals as goal

pub signed_result-requires : goal.signed_result-requires
signed_result-requires c = sheet_small _ _ _ _ _ _ _ c.make_sheet.ensures
