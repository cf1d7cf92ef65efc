use Rattle.std.proofs.Common.{◌≡◌, length}
use Rattle.complex.specs.Complex.{complex_of}
use Rattle.loops.specs.Loops.{loop_steps}
use Rattle.loops.proofs.LoopReads.{Listed}
use Rattle.loops.proofs.climbing.RootedTree.total_steps.Given as goal

abbrev pub invariant-loop-f : goal.invariant-loop-f
invariant-loop-f l = record {
  listed : Listed l.self.complex l.f-items;
  counted : l.total ≡ length (loop_steps (complex_of l.self.complex) l.f-index);
}
