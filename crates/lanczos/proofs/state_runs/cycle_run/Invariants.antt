use Rattle.lanczos.specs.Runs.{CycleRun}
use Rattle.lanczos.proofs.state_runs.cycle_run.Given as goal

abbrev pub invariant-loop-edge : goal.invariant-loop-edge
invariant-loop-edge l = CycleRun l.lambda l.row l.cycle l.edges.list l.edge-index l.most l.r
