use Rattle.std.proofs.Common.{◌≡◌, ◌+◌, ◌-◌, length}
use Rattle.walker.specs.Tables.{states_of}
use Rattle.runs.proofs.OneRun.{Underway, TablesFor, to_come}
use Rattle.runs.proofs.count_states.Given as goal

abbrev pub invariant-loop-from : goal.invariant-loop-from
invariant-loop-from l = record {
  tables : TablesFor l.w l.lambda l.tables;
  underway : Underway l.w l.lambda l.config (l.blocks - l.from);
  count : l.count + length (to_come l.w l.lambda l.config (l.blocks - l.from)) ≡ length (states_of l.w l.lambda l.blocks);
}
