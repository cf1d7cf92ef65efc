use Rattle.std.proofs.Common.{◌≡◌, arith, neg_ℤ, to_z, of_z, w32}
use lib.IntN.{+ℤ_idl}
use Rattle.mathematics.proofs.Signed.{small_back, size_neg}
use Rattle.lanczos.proofs.Rooms.{three_kept}
use Rattle.lanczos.proofs.state_runs.move_run.Goals as goal

pub moved_room-one-requires : goal.moved_room-one-requires
moved_room-one-requires c =
    let unit : to_z w32 (of_z w32 c.args.by) ≡ c.args.by = small_back _ (omega (arith, c.requires.2)) in
    rw unit (c.requires.0, c.requires.1.first_below, c.requires.2, (three_kept _ _ _ _ c.requires.3).0, c.requires.4)

pub moved_room-two-requires : goal.moved_room-two-requires
moved_room-two-requires c =
    let unit : to_z w32 (of_z w32 c.args.by) ≡ c.args.by = small_back _ (omega (arith, c.requires.2)) in
    let back : to_z w32 (of_z w32 (neg_ℤ c.args.by)) ≡ neg_ℤ c.args.by = small_back _ (omega (arith, size_neg c.args.by, c.requires.2)) in
    rw (unit, +ℤ_idl (neg_ℤ c.args.by), back)
    (c.requires.0, c.requires.1.second_below, omega (arith, size_neg c.args.by, c.requires.2), (three_kept _ _ _ _ c.requires.3).1, c.moved_room-one.ensures.some)

pub moved_room-requires : goal.moved_room-requires
moved_room-requires c =
    let unit : to_z w32 (of_z w32 c.args.by) ≡ c.args.by = small_back _ (omega (arith, c.requires.2)) in
    rw unit (c.requires.0, c.requires.1.third_below, c.requires.2, (three_kept _ _ _ _ c.requires.3).2, c.moved_room-two.ensures.some)

pub returns : goal.returns
returns c =
    let unit : to_z w32 (of_z w32 c.args.by) ≡ c.args.by = small_back _ (omega (arith, c.requires.2)) in
    let back : to_z w32 (of_z w32 (neg_ℤ c.args.by)) ≡ neg_ℤ c.args.by = small_back _ (omega (arith, size_neg c.args.by, c.requires.2)) in
    let first = rw unit at c.moved_room-one.ensures in
    let second = rw (unit, +ℤ_idl (neg_ℤ c.args.by), back) at c.moved_room-two.ensures in
    let third = rw unit at c.moved_room.ensures in
    record {
      some = third.some;
      limited = omega (arith, first.limited, second.limited, third.limited);
      first = λ d l. first.inside d (omega (arith, second.limited, third.limited));
      second = λ d l. second.inside d (omega (arith, third.limited));
      third = third.inside;
    }
