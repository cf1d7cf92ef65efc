use Rattle.std.proofs.Common.{◌*◌, ◌^◌, ◌<◌, ◌≤◌, refl, sym, arith}
use lib.Pow.{pow_mono}
use Rattle.su2_even_sets.specs.Loops.{closing_bits}
use Rattle.su2_even_sets.proofs.Spans.{bits_next, bits_below}
use Rattle.su2_masks.proofs.Doubling.{unit_twice, one_unit}
use Rattle.su2_masks.proofs.place.closing_bits.Goals as goal

pub loop-edge-init : goal.loop-edge-init
unfolding closing_bits
loop-edge-init c = record { unit = refl; place = refl }

pub overflow_add-place : goal.overflow_add-place
overflow_add-place c =
    let few : c.loop-edge.edge-index ≤ 20 = omega (arith, c.requires.0, c.loop-edge-test.true) in
    let small : c.loop-edge.unit ≤ 2 ^ 20 = rw c.loop-edge.invariant.unit (pow_mono few) in
    let more : c.bit_of.result * c.loop-edge.unit ≤ c.loop-edge.unit = one_unit c.bit_of.result c.loop-edge.unit c.bit_of.ensures.1 in
    let below : c.loop-edge.place < c.loop-edge.unit = rw (c.loop-edge.invariant.unit, c.loop-edge.invariant.place) (bits_below c.args.closing.now c.args.x c.loop-edge.edge-index) in
    omega arith

pub loop-edge-preserved : goal.loop-edge-preserved
loop-edge-preserved c =
    record {
      unit = unit_twice _ _ c.loop-edge.invariant.unit;
      place = rw (c.loop-edge.invariant.place, c.loop-edge.invariant.unit, c.bit_of.ensures.0, c.from.ensures) (sym (bits_next c.args.closing.now c.args.x c.loop-edge.edge-index));
    }
