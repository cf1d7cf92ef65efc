use Rattle.std.proofs.Common.{◌≤◌}
use Rattle.complex.specs.Complex.{simplices}
use Rattle.su2_even_sets.specs.Loops.{grown}
use Rattle.su2_even_sets.specs.Forest.{Keeps}
use Rattle.su2_even_sets.proofs.closing_loops.Given as goal

abbrev pub invariant-loop-e : goal.invariant-loop-e
invariant-loop-e l = record {
  few : l.forest.count ≤ l.e;
  keeps : Keeps (grown (simplices 2 l.c.edges l.c.n_edges) l.e) l.forest;
}
