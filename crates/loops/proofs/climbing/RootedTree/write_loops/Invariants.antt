use Rattle.std.proofs.Common.{◌≡◌, length}
use Rattle.complex.specs.Complex.{complex_of}
use Rattle.loops.specs.Walks.{edge_of, direction_of}
use Rattle.loops.specs.Loops.{loop_steps}
use Rattle.loops.proofs.LoopLists.{Laid, Started}
use Rattle.loops.proofs.LoopReads.{Listed}
use Rattle.loops.proofs.climbing.RootedTree.write_loops.Given as goal

abbrev pub invariant-loop-j : goal.invariant-loop-j
invariant-loop-j l = record {
  listed : Listed l.self.complex l.f-items;
  at : l.at ≡ length (loop_steps (complex_of l.self.complex) l.j);
  start_list : Started (complex_of l.self.complex) l.fn.starts l.j l.starts;
  edge_list : Laid (complex_of l.self.complex) edge_of l.fn.edges l.j l.edges;
  direction_list : Laid (complex_of l.self.complex) direction_of l.fn.directions l.j l.directions;
}
