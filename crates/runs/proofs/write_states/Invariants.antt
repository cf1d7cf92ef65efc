use Rattle.std.proofs.Common.{◌≡◌, ◌-◌, length}
use Rattle.walker.specs.Tables.{states_of}
use Rattle.runs.proofs.OneRun.{Underway, TablesFor, to_come}
use Rattle.runs.proofs.Written.{SoFar}
use Rattle.runs.proofs.write_states.Given as goal

abbrev pub invariant-loop-from : goal.invariant-loop-from
invariant-loop-from l = record {
  tables : TablesFor l.w l.lambda l.tables;
  underway : Underway l.w l.lambda l.config (l.blocks - l.from);
  long : length l.states ≡ length l.fn.states;
  space : length l.row ≡ length l.config;
  so_far : SoFar (states_of l.w l.lambda l.blocks) l.w.n_edges l.count (to_come l.w l.lambda l.config (l.blocks - l.from)) l.fn.states l.states;
}
