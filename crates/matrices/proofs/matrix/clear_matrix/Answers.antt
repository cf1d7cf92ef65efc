use Rattle.std.proofs.Common.{◌≡◌, ◌*◌, length, take, length-take-le}
use Rattle.matrices.proofs.Literals.{zero}
use Rattle.matrices.proofs.Matrices.{filled_matrix}
use Rattle.matrices.proofs.matrix.clear_matrix.Goals as goal

pub returns : goal.returns
returns c =
    let n = c.args.n in
    let h = c.args.h.now in
    let long : length (take (n * n) h) ≡ n * n = length-take-le (n * n) h c.requires.1 in
    rw (c.fill.ensures.after (λ y e. e), long, zero) (filled_matrix n h c.requires.1)
