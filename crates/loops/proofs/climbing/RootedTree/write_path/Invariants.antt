use Rattle.std.proofs.Common.{◌≡◌, ◌+◌, ◌-◌, length}
use Rattle.complex.specs.Complex.{complex_of}
use Rattle.loops.specs.Loops.{path}
use Rattle.loops.specs.Walks.{edge_of, direction_of}
use Rattle.loops.proofs.Climbs.{Between}
use Rattle.loops.proofs.Filling.{Filling}
use Rattle.loops.proofs.climbing.RootedTree.write_path.Given as goal

abbrev pub invariant-loop-x : goal.invariant-loop-x
invariant-loop-x l = record {
  between : Between l.self.complex l.self.parents l.x l.y;
  left : l.back ≡ l.front + length (path (complex_of l.self.complex) l.x l.y);
  edge_list : Filling edge_of (path (complex_of l.self.complex) l.fn.a l.fn.b) l.fn.at l.fn.edges (path (complex_of l.self.complex) l.x l.y) l.front l.edges;
  direction_list : Filling direction_of (path (complex_of l.self.complex) l.fn.a l.fn.b) l.fn.at l.fn.directions (path (complex_of l.self.complex) l.x l.y) l.front l.directions;
}

abbrev pub decreases-loop-x : goal.decreases-loop-x
decreases-loop-x l = l.back - l.front
