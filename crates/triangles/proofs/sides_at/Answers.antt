use Rattle.complex.proofs.Triangles.{three}
use Rattle.triangles.proofs.sides_at.Goals as goal

pub returns : goal.returns
returns c = three _ _ _ _ _ c.from.ensures c.from-2.ensures c.from-3.ensures
