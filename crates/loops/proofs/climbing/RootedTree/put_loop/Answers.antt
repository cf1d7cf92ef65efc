use Rattle.std.proofs.Common.{refl, arith}
use Rattle.loops.specs.Walks.{edge_of, direction_of}
use Rattle.loops.proofs.Climbs.{edges_few}
use Rattle.loops.proofs.LoopReads.{ends, last_room, loop_put}
use Rattle.loops.proofs.climbing.RootedTree.put_loop.Goals as goal

pub edge-a-requires : goal.edge-a-requires
edge-a-requires c = omega (arith, edges_few c.args.self.now.parented, c.requires.0)

pub write_path-last-requires : goal.write_path-last-requires
write_path-last-requires c =
    let e = ends c.args.self.now.parented c.requires.0 c.edge-a.ensures.first c.edge-a.ensures.second in
    (e.first, e.second, record { edge_room = omega (arith, c.requires.1.edge_room); direction_room = omega (arith, c.requires.1.direction_room) })

pub overflow_cast-edges : goal.overflow_cast-edges
overflow_cast-edges c = omega (arith, edges_few c.args.self.now.parented, c.requires.0)

pub bounds-edges-last : goal.bounds-edges-last
bounds-edges-last c =
    let e = ends c.args.self.now.parented c.requires.0 c.edge-a.ensures.first c.edge-a.ensures.second in
    last_room e edge_of refl _ _ c.write_path-last.ensures.next c.write_path-last.ensures.steps.edge_list c.requires.1.edge_room

pub slice_set_of-directions : goal.slice_set_of-directions
slice_set_of-directions c =
    let e = ends c.args.self.now.parented c.requires.0 c.edge-a.ensures.first c.edge-a.ensures.second in
    last_room e direction_of refl _ _ c.write_path-last.ensures.next c.write_path-last.ensures.steps.direction_list c.requires.1.direction_room

pub overflow_add-result : goal.overflow_add-result
overflow_add-result c =
    let e = ends c.args.self.now.parented c.requires.0 c.edge-a.ensures.first c.edge-a.ensures.second in
    omega (arith, c.write_path-last.ensures.next, c.requires.1.edge_room)

pub returns : goal.returns
returns c =
    let e = ends c.args.self.now.parented c.requires.0 c.edge-a.ensures.first c.edge-a.ensures.second in
    let next = c.write_path-last.ensures.next in
    let written = c.write_path-last.ensures.steps in
    record {
      next_place = omega arith;
      steps =
          record {
            edge_list = loop_put e edge_of refl _ _ next written.edge_list c.requires.1.edge_room;
            direction_list = loop_put e direction_of refl _ _ next written.direction_list c.requires.1.direction_room;
          };
    }
