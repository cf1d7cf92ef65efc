use Rattle.std.proofs.Common.{length}
use Rattle.complex.specs.Tree.{Linked}
use Rattle.complex.proofs.search.half_edges.Given as goal

abbrev pub invariant-loop-d : goal.invariant-loop-d
invariant-loop-d l = Linked l.edges (length l.edges) l.half.heads l.half.next l.d
