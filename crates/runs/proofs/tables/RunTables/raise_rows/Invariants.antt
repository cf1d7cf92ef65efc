use Rattle.std.proofs.Common.{◌≡◌, ◌+◌, ◌-◌, ◌*◌, ◌≤◌, length}
use Rattle.mathematics.specs.Writing.{put}
use Rattle.runs.specs.Rows.{repeated, raised}
use Rattle.runs.proofs.tables.RunTables.raise_rows.Given as goal

abbrev pub invariant-loop-left : goal.invariant-loop-left
invariant-loop-left l = record {
  few : l.left ≤ l.number;
  place : l.place ≡ l.at + (l.number - l.left) * length l.self.second.now;
  long : length l.states ≡ length l.fn.states;
  list : l.states ≡ put l.fn.states l.at (raised l.fn.states (l.at - l.back) (repeated l.self.second.now (l.number - l.left)));
}

abbrev pub decreases-loop-left : goal.decreases-loop-left
decreases-loop-left l = l.left
