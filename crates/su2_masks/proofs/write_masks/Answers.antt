use Rattle.std.proofs.Common.{refl, length, ◌≡◌, ◌≤◌, ◌^◌, ◌+◌, ◌++◌, ap, ◌∙◌, arith}
use lib.Pow.{pow_pos, pow_mono}
use lib.ListN.{set, length-set}
use lib.Seq.{drop-set-lt}
use Rattle.su2_even_sets.specs.Loops.{loop_sums}
use Rattle.su2_masks.proofs.Doubling.{masks_none, masks_more, room_twice, unit_twice}
use Rattle.su2_masks.proofs.write_masks.Goals as goal

pub loop-cycle-init : goal.loop-cycle-init
loop-cycle-init c =
    record {
      unit = refl;
      long = length-set c.args.states.now 0 0;
      made = masks_none c.args.loops.now c.args.states.now (omega (arith, c.requires.1, pow_pos (length c.args.loops.now)));
    }

pub double-requires : goal.double-requires
double-requires c =
    let small : c.loop-cycle.cycle-index ≤ 20 = omega (arith, c.requires.0, c.loop-cycle-test.true) in (
      rw c.loop-cycle.invariant.unit (pow_mono small),
      rw (unit_twice _ _ c.loop-cycle.invariant.unit, c.loop-cycle.invariant.long) (room_twice (length c.args.loops.now) _ _ c.loop-cycle-test.true c.requires.1),
    )

pub loop-cycle-preserved : goal.loop-cycle-preserved
loop-cycle-preserved c =
    let room : 2 ^ (c.loop-cycle.cycle-index + 1) ≤ length (set c.args.states.now 0 0) = rw length-set (room_twice (length c.args.loops.now) _ _ c.loop-cycle-test.true c.requires.1) in
    let made = rw (c.loop-cycle.invariant.unit, c.loop-cycle.invariant.made) at c.double.ensures in
    record {
      unit = unit_twice _ _ c.loop-cycle.invariant.unit;
      long = c.double.auto.states ∙ c.loop-cycle.invariant.long;
      made = made ∙ masks_more c.args.loops.now (set c.args.states.now 0 0) c.loop-cycle.cycle-index room _ refl;
    }

pub returns : goal.returns
returns c =
    let n = length c.args.loops.now in
    let past : c.loop-cycle.cycle-index ≡ n = omega arith in
    (rw past at c.loop-cycle.invariant.made) ∙ ap (λ l. loop_sums c.args.loops.now n ++ l) (drop-set-lt (2 ^ n) c.args.states.now 0 0 (pow_pos n))
