use Rattle.std.proofs.Common.{◌≡◌, ◌≤◌, max, length}
use Rattle.runs.specs.Runs.{run_states}
use Rattle.runs.proofs.tables.RunTables.count.Given as goal

abbrev pub invariant-loop-i : goal.invariant-loop-i
invariant-loop-i l = record {
  below : l.i ≤ max l.fn.span.from l.fn.span.to;
  count : l.count ≡ length (run_states l.self.lambda l.self.width l.config l.self.first.now l.self.second.now l.fn.span.from l.i);
}
