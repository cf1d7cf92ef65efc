use Rattle.std.proofs.Common.{◌≡◌, ◌-◌, length, arith}
use Rattle.matvec.specs.Product.{starts_right}
use Rattle.matvec.proofs.product.starts_right.Goals as goal

pub returns : goal.returns
unfolding starts_right
returns c = let e : length c.args.starts.now - 1 ≡ c.args.n = omega arith in rw (c.never_falls.ensures, e)
