use Rattle.std.proofs.Common.{◌≡◌, ◌+◌, ◌-◌, length, refl, ◌∙◌, arith}
use Rattle.mathematics.proofs.Signed.{back8}
use Rattle.complex.specs.Complex.{complex_of}
use Rattle.loops.specs.Loops.{path}
use Rattle.loops.proofs.Climbs.{between, first_climbs, second_climbs, path_met}
use Rattle.loops.proofs.Filling.{none_filled, front_filled, back_filled, all_filled}
use Rattle.loops.proofs.climbing.RootedTree.write_path.Goals as goal

pub loop-x-init : goal.loop-x-init
loop-x-init c =
    record {
      between = between c.args.self.now.parented c.requires.0 c.requires.1;
      left = omega (arith, c.path_length.ensures);
      edge_list = none_filled c.requires.2.edge_room;
      direction_list = none_filled c.requires.2.direction_room;
    }

-- ---- the first was found later
pub loop-x-preserved-then-place-y : goal.loop-x-preserved-then-place-y
loop-x-preserved-then-place-y c =
    let inv = c.loop-x.invariant in
    let climbed = first_climbs c.args.self.now.parented inv.between c.loop-x-test.true c.if-place-y.true c.from-then-place-y.ensures c.across-x.ensures in
    let way = back8 c.direction.result c.direction.type_inv ∙ (rw c.from.ensures at c.direction.ensures) in
    record {
      between = climbed.between;
      left = omega (arith, climbed.shorter, inv.left);
      edge_list = front_filled (rw climbed.path_is at inv.edge_list) refl;
      direction_list = front_filled (rw climbed.path_is at inv.direction_list) way;
    }

-- ---- the second was
pub loop-x-preserved : goal.loop-x-preserved
loop-x-preserved c =
    let inv = c.loop-x.invariant in
    let climbed = second_climbs c.args.self.now.parented inv.between c.loop-x-test.true c.if-place-y.false c.from-else-place-y.ensures c.across-y.ensures in
    let way = back8 c.direction-else-place-y.result c.direction-else-place-y.type_inv ∙ (rw c.from-else-place-y-2.ensures at c.direction-else-place-y.ensures) in
    let last : c.loop-x.back - 1 ≡ c.loop-x.front + length (path (complex_of c.args.self.now.complex) c.loop-x.x c.across-y.result) = omega (arith, climbed.shorter, inv.left) in
    record {
      between = climbed.between;
      left = last;
      edge_list = back_filled (rw climbed.path_is at inv.edge_list) refl last;
      direction_list = back_filled (rw climbed.path_is at inv.direction_list) way last;
    }

pub returns-clause-steps : goal.returns-clause-steps
returns-clause-steps c =
    let met = path_met c.args.self.now.parented c.loop-x-test.false in
    record {
      edge_list = all_filled (rw met at c.loop-x.invariant.edge_list);
      direction_list = all_filled (rw met at c.loop-x.invariant.direction_list);
    }
