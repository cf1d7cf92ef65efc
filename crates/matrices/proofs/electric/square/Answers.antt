use Prim.{tt}
use Rattle.std.proofs.Common.{w32, arith}
use Rattle.mathematics.proofs.Signed.{size_fits}
use Rattle.matrices.proofs.Squares.{square_small, square_made, square_back}
use Rattle.matrices.proofs.electric.square.Goals as goal

pub overflow_mul-result : goal.overflow_mul-result
overflow_mul-result c = rw (square_made c.args.x c.requires) (size_fits w32 _ (omega (arith, square_small c.args.x c.requires)))

pub overflow_cast-result : goal.overflow_cast-result
overflow_cast-result c = rw (square_back c.args.x c.requires) (tt, record { fits = omega (arith, square_small c.args.x c.requires) })

pub returns : goal.returns
returns c = rw (square_back c.args.x c.requires)
