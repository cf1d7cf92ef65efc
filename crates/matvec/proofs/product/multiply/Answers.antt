use Rattle.std.proofs.Common.{◌≡◌, [], take, drop, length, refl, arith, length-take-le}
use mathlib.Core.List.{append-nil}
use lib.ListN.{drop_of_length-le}
use Rattle.mathematics.specs.Counting.{below}
use Rattle.matvec.proofs.Summing.{sums, store_turn, all_stored}
use Rattle.matvec.proofs.product.multiply.Goals as goal

pub loop-i-init : goal.loop-i-init
unfolding sums below
loop-i-init c = (refl, refl)

pub loop-i-preserved : goal.loop-i-preserved
loop-i-preserved c =
    let a = c.args in
    let carried = c.loop-i.invariant in
    (refl, store_turn a.starts.now a.columns.now a.values.now a.vector.now (take (length a.vector.now) a.res.now) c.loop-i.sum-items c.loop-i.i c.row_sum.result (omega arith) carried.1 (rw carried.0 at c.row_sum.ensures))

pub returns : goal.returns
returns c =
    let a = c.args in
    let n = length a.vector.now in
    let begin = take n a.res.now in
    let long : length begin ≡ n = length-take-le n a.res.now (omega arith) in
    let past : c.loop-i.i ≡ n = omega arith in
    let none : drop n begin ≡ [] = drop_of_length-le begin {i = n} (omega arith) in
    rw (c.loop-i.invariant.1, past, none, append-nil (sums a.starts.now a.columns.now a.values.now a.vector.now n)) (all_stored a.starts.now a.columns.now a.values.now a.vector.now a.res.now)
