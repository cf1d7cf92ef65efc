use Rattle.std.proofs.Common.{◌≡◌, take}
use Rattle.matvec.specs.Product.{columns_right}
use Rattle.matvec.proofs.product.columns_below.Given as goal

abbrev pub invariant-loop-j : goal.invariant-loop-j
invariant-loop-j l = l.so_far ≡ columns_right (take l.j-index l.columns) l.limit
