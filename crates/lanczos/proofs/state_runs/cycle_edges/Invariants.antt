use Rattle.lanczos.proofs.Rooms.{Covering}
use Rattle.lanczos.proofs.state_runs.cycle_edges.Given as goal

abbrev pub invariant-loop-e : goal.invariant-loop-e
invariant-loop-e l = Covering l.edges.list l.edges.count l.cycle l.e
