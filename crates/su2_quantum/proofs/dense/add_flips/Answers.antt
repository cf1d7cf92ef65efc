use Rattle.std.proofs.Common.{◌≡◌, ◌*◌, ◌≤◌, length, arith}
use Rattle.std.specs.Int.Bits.{bit_xor}
use Rattle.matrices.proofs.Matrices.{matrix_same, passed_none, passed_more}
use Rattle.su2_quantum.proofs.dense.add_flips.Goals as goal

pub loop-i-init : goal.loop-i-init
loop-i-init c = λ f old m. matrix_same _ _ _ old _ (λ i j h k. passed_none f _ _ i j) m

pub loop-i-preserved : goal.loop-i-preserved
loop-i-preserved c = λ f old m.
    let room : c.args.n * c.args.n ≤ length old = rw (← m.long) c.requires.1 in
    rw c.add_entry.ensures
    (passed_more f (λ j. bit_xor j c.args.k) (λ j. c.args.x) c.args.n old c.loop-i.h c.loop-i.i (c.loop-i.invariant f old m) room (omega arith) (c.requires.2 _ (omega arith)))

pub returns : goal.returns
returns c =
    let past : c.loop-i.i ≡ c.args.n = omega arith in
    rw past at c.loop-i.invariant
