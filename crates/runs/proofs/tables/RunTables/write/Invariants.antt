use Rattle.std.proofs.Common.{◌≡◌, ◌+◌, ◌*◌, ◌≤◌, length, pos, neg_ℤ}
use Rattle.cycles.specs.Cycles.{with_cycle}
use Rattle.walker.specs.Blocks.{WrittenAt}
use Rattle.runs.specs.Rows.{RowsBefore}
use Rattle.runs.specs.Runs.{run_states}
use Rattle.runs.proofs.tables.RunTables.write.Given as goal

abbrev pub invariant-loop : goal.invariant-loop
invariant-loop l = record {
  sized : length l.row ≡ length l.config;
  row : l.row ≡ with_cycle l.config (pos l.counter) l.self.second.now;
  long : length l.states ≡ length l.fn.states;
  room : l.at + l.count * length l.config ≤ length l.states;
  written : WrittenAt (run_states l.self.lambda l.self.width l.config l.self.first.now l.self.second.now l.fn.span.from l.counter) l.fn.states l.states l.at l.count;
  last : RowsBefore l.states (l.at + l.count * length l.config) (with_cycle l.row (neg_ℤ (pos 1)) l.self.second.now) l.self.first.now l.last;
}
