use Rattle.std.proofs.Common.{sym, arith}
use Rattle.loops.proofs.Climbs.{edges_few, path_short}
use Rattle.loops.proofs.LoopReads.{ends}
use Rattle.loops.proofs.climbing.RootedTree.loop_length.Goals as goal

pub edge-a-requires : goal.edge-a-requires
edge-a-requires c = omega (arith, edges_few c.args.self.now.parented, c.requires)

pub path_length-requires : goal.path_length-requires
path_length-requires c =
    let e = ends c.args.self.now.parented c.requires c.edge-a.ensures.first c.edge-a.ensures.second in
    (e.first, e.second)

pub overflow_add-result : goal.overflow_add-result
overflow_add-result c =
    let h = c.args.self.now.parented in
    let e = ends h c.requires c.edge-a.ensures.first c.edge-a.ensures.second in
    omega (arith, path_short h e.first e.second, c.path_length.ensures)

pub returns : goal.returns
returns c =
    let e = ends c.args.self.now.parented c.requires c.edge-a.ensures.first c.edge-a.ensures.second in
    rw c.path_length.ensures (sym e.long)
