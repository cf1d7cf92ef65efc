use Rattle.std.proofs.Common.{◌≡◌, ◌+◌, ◌-◌, length}
use Rattle.complex.specs.Complex.{complex_of}
use Rattle.loops.specs.Loops.{path}
use Rattle.loops.proofs.Climbs.{Between}
use Rattle.loops.proofs.climbing.RootedTree.path_length.Given as goal

abbrev pub invariant-loop-x : goal.invariant-loop-x
invariant-loop-x l = record {
  between : Between l.self.complex l.self.parents l.x l.y;
  counted : l.n + length (path (complex_of l.self.complex) l.x l.y) ≡ length (path (complex_of l.self.complex) l.fn.a l.fn.b);
}

abbrev pub decreases-loop-x : goal.decreases-loop-x
decreases-loop-x l = length (path (complex_of l.self.complex) l.fn.a l.fn.b) - l.n
