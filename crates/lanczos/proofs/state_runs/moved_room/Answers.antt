use Rattle.std.proofs.Common.{◌≡◌, ◌+ℤ◌, arith, pos, get_or, to_z, of_z, w8, w32}
use Rattle.walker.proofs.Adding.{sign_back}
use Rattle.mathematics.proofs.Signed.{small_back}
use Rattle.lanczos.proofs.state_runs.moved_room.Goals as goal

pub returns : goal.returns
returns c =
    let x = get_or c.args.row.now c.args.e (pos 0) in
    let z = get_or c.args.cycle.now c.args.e (pos 0) in
    let value : to_z w32 (of_z w32 x) ≡ x = small_back x (omega (arith, c.requires.0.values c.args.e, c.requires.0.truncation)) in
    let unit : to_z w32 (of_z w32 c.args.by) ≡ c.args.by = small_back c.args.by (omega (arith, c.requires.2)) in
    let sum : to_z w32 (of_z w32 (x +ℤ c.args.by)) ≡ x +ℤ c.args.by = small_back (x +ℤ c.args.by) (omega (arith, c.requires.3, c.requires.0.truncation)) in
    let sign : to_z w8 (of_z w8 z) ≡ z = sign_back z (c.requires.0.signs c.args.e) in
    rw (value, unit, sum, sign) at c.room.ensures
