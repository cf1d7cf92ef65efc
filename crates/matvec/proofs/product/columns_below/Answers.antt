use Rattle.std.proofs.Common.{refl, sym, nat_lt, arith}
use Rattle.mathematics.specs.Tests.{every_entry}
use Rattle.matvec.specs.Product.{columns_right}
use Rattle.matvec.proofs.Judging.{all_next}
use Rattle.matvec.proofs.product.columns_below.Goals as goal

pub loop-j-init : goal.loop-j-init
unfolding columns_right every_entry
loop-j-init c = refl

pub loop-j-preserved : goal.loop-j-preserved
unfolding columns_right
loop-j-preserved c = rw c.loop-j.invariant (sym (all_next (λ j. nat_lt j c.args.limit) 0 c.args.columns.now c.loop-j.j-index (omega arith)))
