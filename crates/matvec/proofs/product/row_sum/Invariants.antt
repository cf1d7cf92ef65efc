use Rattle.std.proofs.Common.{◌≡◌, ◌+◌, length}
use Rattle.std.proofs.Math.Seq.{slice}
use Rattle.rows.specs.Entries.{pairs}
use Rattle.matvec.specs.Product.{with_products, row_sum}
use Rattle.matvec.proofs.product.row_sum.Given as goal

abbrev pub invariant-loop-column : goal.invariant-loop-column
invariant-loop-column l = with_products l.vector l.sum (slice (l.from + length l.yielded) l.to (pairs l.columns l.values)) ≡ row_sum l.vector (slice l.from l.to (pairs l.columns l.values))
