use Rattle.complex.specs.Complex.{simplices}
use Rattle.acceptance.specs.Once.{EdgesIndexed}
use Rattle.acceptance.proofs.index_edges.Given as goal

abbrev pub invariant-loop-e : goal.invariant-loop-e
invariant-loop-e l = EdgesIndexed l.table l.so_far (simplices 2 l.c.edges l.e)
