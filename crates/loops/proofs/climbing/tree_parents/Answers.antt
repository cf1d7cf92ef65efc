use Rattle.std.proofs.Common.{◌<◌, arith}
use lib.Seq.{get_or-take, length-take-le}
use Rattle.loops.proofs.Noting.{none_noted, one_noted}
use Rattle.loops.proofs.climbing.tree_parents.Goals as goal

pub loop-i-init : goal.loop-i-init
loop-i-init c = none_noted c.args.tree c.requires

pub loop-i-preserved : goal.loop-i-preserved
loop-i-preserved c =
    let room = c.requires.room in
    let long = c.requires.tree_long in
    let more : c.loop-i.i < c.args.tree.found = omega (arith, length-take-le c.args.tree.found c.args.tree.tree_edges (omega arith)) in
    rw (c.from-v.ensures, get_or-take c.args.tree.found c.args.tree.tree_edges c.loop-i.i 0 more)
    (one_noted c.args.tree c.requires c.loop-i.i more c.loop-i.place c.loop-i.led c.loop-i.invariant)
