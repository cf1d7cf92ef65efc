use Rattle.std.proofs.Common.{length}
use Rattle.complex.specs.Complex.{complex_of}
use Rattle.cycles.specs.Cycles.{PathTable}
use Rattle.cycles.proofs.tree_paths.Given as goal

abbrev pub invariant-loop-e : goal.invariant-loop-e
invariant-loop-e l = PathTable (complex_of l.c) (length l.yielded) l.paths
