use Rattle.std.proofs.Common.{arith}
use Rattle.su2_rows.proofs.Flipping.{none_flipped, one_flipped}
use Rattle.su2_rows.proofs.row.flip_columns.Goals as goal

pub loop-column-init : goal.loop-column-init
loop-column-init c = none_flipped _ _

pub loop-column-preserved : goal.loop-column-preserved
loop-column-preserved c = one_flipped _ _ _ _ (omega arith) c.loop-column.invariant

pub returns : goal.returns
returns c = λ t h. c.loop-column.invariant.flipped t (omega arith)
