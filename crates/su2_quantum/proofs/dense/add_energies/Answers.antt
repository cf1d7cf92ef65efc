use Rattle.std.proofs.Common.{◌≡◌, ◌*◌, ◌<◌, ◌≤◌, length, get_or, arith}
use Rattle.std.proofs.lemmas.List.{length-take-le, get_or-take}
use Rattle.std.specs.Int.Count.{ones}
use Rattle.matrices.specs.Squares.{energy}
use Rattle.matrices.proofs.Matrices.{matrix_same, passed_none, passed_more}
use Rattle.su2_quantum.proofs.dense.add_energies.Goals as goal

pub loop-i-init : goal.loop-i-init
loop-i-init c = λ f old m. matrix_same _ _ _ old _ (λ i j h k. passed_none f _ _ i j) m

pub loop-i-preserved : goal.loop-i-preserved
loop-i-preserved c = λ f old m.
    let room : c.args.n * c.args.n ≤ length old = rw (← m.long) c.requires.1 in
    let inside : c.loop-i.i < c.args.n = omega (arith, length-take-le c.args.n c.args.states.now c.requires.2) in
    rw (c.add_entry.ensures, c.mask_energy.ensures, get_or-take c.args.n c.args.states.now c.loop-i.i 0 inside)
    (passed_more f (λ j. j) (λ j. energy c.args.factor (ones (get_or c.args.states.now j 0))) c.args.n old c.loop-i.h c.loop-i.i (c.loop-i.invariant f old m) room inside inside)

pub returns : goal.returns
returns c =
    let past : c.loop-i.i ≡ c.args.n = omega (arith, length-take-le c.args.n c.args.states.now c.requires.2) in
    rw past at c.loop-i.invariant
