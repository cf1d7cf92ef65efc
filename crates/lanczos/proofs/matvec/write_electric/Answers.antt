use Rattle.std.proofs.Common.{◌≡◌, [], refl, arith, drop, take, length, length-take-le}
use mathlib.Core.List.{append-nil}
use lib.ListN.{drop_of_length-le}
use Rattle.mathematics.specs.Counting.{below}
use Rattle.matrices.proofs.Literals.{zero}
use Rattle.lanczos.specs.Walk.{electric_parts}
use Rattle.lanczos.proofs.Electric.{electric_turn, electric_all}
use Rattle.lanczos.proofs.matvec.write_electric.Goals as goal

pub loop-i-init : goal.loop-i-init
unfolding electric_parts below
loop-i-init c = refl

pub row_energy-requires : goal.row_energy-requires
row_energy-requires c =
    let long : length (take c.args.n c.args.res.now) ≡ c.args.n = length-take-le c.args.n c.args.res.now c.requires.2 in
    (_, c.requires.0, omega (arith, c.loop-i-test.true, long))

pub loop-i-preserved : goal.loop-i-preserved
loop-i-preserved c =
    let a = c.args in
    electric_turn a.factor a.m a.list.now a.vector.now (take a.n a.res.now) c.loop-i.sum-items c.loop-i.i _ c.loop-i-test.true c.loop-i.invariant (rw (zero, ← c.row_energy.ensures))

pub returns : goal.returns
returns c =
    let a = c.args in
    let begin = take a.n a.res.now in
    let long : length begin ≡ a.n = length-take-le a.n a.res.now c.requires.2 in
    let past : c.loop-i.i ≡ a.n = omega (arith, long) in
    let none : drop a.n begin ≡ [] = drop_of_length-le begin {i = a.n} (omega (arith, long)) in
    rw (c.loop-i.invariant, past, none, append-nil (electric_parts a.factor a.m a.list.now a.vector.now a.n)) (electric_all a.factor a.m a.list.now a.vector.now a.n a.res.now)
