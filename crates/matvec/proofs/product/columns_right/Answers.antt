use Rattle.std.proofs.Common.{get_or, sym, arith}
use borrow.Author.Tests.{lt-ltb}
use lib.Dec.{ltb}
use Rattle.mathematics.proofs.Tests.{at_all}
use Rattle.matvec.specs.Product.{columns_right}
use Rattle.matvec.proofs.product.columns_right.Goals as goal

-- all columns are below 2^32
pub returns-in-Err : goal.returns-in-Err
unfolding columns_right
returns-in-Err c =
    let columns = c.args.columns.now in
    sym (at_all (λ j. ltb j c.args.n) 0 columns (λ k h. lt-ltb (get_or columns k 0) c.args.n (omega (arith, c.in-Err.ensures, c.type_inv.columns k))))
