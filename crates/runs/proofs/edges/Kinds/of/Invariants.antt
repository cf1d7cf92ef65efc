use Rattle.runs.proofs.EdgeLists.{Sorted}
use Rattle.runs.proofs.edges.Kinds.of.Given as goal

abbrev pub invariant-loop-e : goal.invariant-loop-e
invariant-loop-e l = record {
  still : Sorted l.first l.second 0 l.e l.still;
  side : Sorted l.first l.second 1 l.e l.side;
  moved : Sorted l.first l.second 2 l.e l.moved;
}
