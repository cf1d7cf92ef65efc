use Rattle.exports.proofs.Signs.{told}
use Rattle.exports.proofs.OnSheets.{zero_answered, small_zero}
use Rattle.rows_exports.proofs.export_matvec.Goals as goal

pub signed_result-requires : goal.signed_result-requires
signed_result-requires c = small_zero c.matvec.ensures _ c.untold.ensures

pub returns : goal.returns
returns c = told (zero_answered c.matvec.ensures) c.signed_result.type_inv (rw c.untold.ensures at c.signed_result.ensures)
