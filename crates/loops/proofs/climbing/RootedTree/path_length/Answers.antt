use Rattle.std.proofs.Common.{arith}
use Rattle.loops.proofs.Climbs.{between, first_climbs, second_climbs, path_short}
use Rattle.loops.proofs.climbing.RootedTree.path_length.Goals as goal

pub loop-x-init : goal.loop-x-init
loop-x-init c = record { between = between c.args.self.now.parented c.requires.0 c.requires.1; counted = omega arith }

pub overflow_add-n : goal.overflow_add-n
overflow_add-n c = omega (arith, path_short c.args.self.now.parented c.requires.0 c.requires.1, c.loop-x.invariant.counted)

-- ---- the first was found later
pub loop-x-preserved-then-place-y : goal.loop-x-preserved-then-place-y
loop-x-preserved-then-place-y c =
    let inv = c.loop-x.invariant in
    let climbed = first_climbs c.args.self.now.parented inv.between c.loop-x-test.true c.if-place-y.true c.from.ensures c.across-x.ensures in
    record { between = climbed.between; counted = omega (arith, climbed.shorter, inv.counted) }

-- ---- the second was
pub loop-x-preserved : goal.loop-x-preserved
loop-x-preserved c =
    let inv = c.loop-x.invariant in
    let climbed = second_climbs c.args.self.now.parented inv.between c.loop-x-test.true c.if-place-y.false c.from-else-place-y.ensures c.across-y.ensures in
    record { between = climbed.between; counted = omega (arith, climbed.shorter, inv.counted) }
