use Rattle.std.proofs.Common.{◌≡◌, ◌++◌, get_or}
use Rattle.std.proofs.Math.ListN.{drop}
use Rattle.matvec.proofs.Summing.{sums}
use Rattle.matvec.proofs.product.multiply.Given as goal

abbrev pub invariant-loop-i : goal.invariant-loop-i
invariant-loop-i l = (l.from ≡ get_or l.starts l.i 0) × (l.sum-items ≡ sums l.starts l.columns l.values l.vector l.i ++ drop l.i l.initial.sum-items)
