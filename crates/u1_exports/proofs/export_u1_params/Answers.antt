use Rattle.mathematics.proofs.Signed.{back64}
use Rattle.u1_exports.proofs.export_u1_params.Goals as goal

pub returns : goal.returns
returns c = rw (back64 _ c.store_params.type_inv) (c.store_params.ensures _ _ c.u1.ensures)
