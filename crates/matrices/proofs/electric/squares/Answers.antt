use Rattle.std.proofs.Common.{◌≡◌, ◌≤◌, ◌*◌, refl, ◌∙◌, pos, nat_abs, get_or, take, arith}
use Rattle.mathematics.proofs.Front.{take_next}
use Rattle.mathematics.proofs.Signed.{small_back}
use Rattle.matrices.specs.Squares.{squares}
use Rattle.matrices.proofs.Squares.{square_small, squares_last}
use Rattle.matrices.proofs.electric.squares.Goals as goal

pub loop-x-init : goal.loop-x-init
unfolding squares
loop-x-init c = (refl, omega arith)

pub loop-x-preserved : goal.loop-x-preserved
loop-x-preserved c =
    let s = c.args.state.now in
    let i = c.loop-x.x-index in
    let x = get_or s i (pos 0) in
    let few : nat_abs x ≤ 1000 = c.requires.1 i (omega arith) in
    let square : c.square-sum.result ≡ nat_abs x * nat_abs x = c.square-sum.ensures ∙ rw (small_back x (omega arith)) in
    let small : nat_abs x * nat_abs x ≤ 1000000 = square_small x few in
    (rw (take_next s i (pos 0) (omega arith), squares_last (take i s) x, ← c.loop-x.invariant.0, ← square), omega arith)
