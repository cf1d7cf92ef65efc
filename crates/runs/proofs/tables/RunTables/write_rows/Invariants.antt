use Rattle.std.proofs.Common.{◌≡◌, ◌+◌, ◌-◌, ◌*◌, length}
use mathlib.Core.List.{flatten}
use Rattle.mathematics.specs.Writing.{put}
use Rattle.walker.specs.Walker.{block_rows}
use Rattle.runs.proofs.tables.RunTables.write_rows.Given as goal

abbrev pub invariant-loop : goal.invariant-loop
invariant-loop l = record {
  place : l.place + length l.config ≡ l.at + (l.counter - l.fn.span.from) * length l.config;
  long : length l.states ≡ length l.fn.states;
  list : l.states ≡ put l.fn.states l.at (flatten (block_rows l.config l.self.first.now l.fn.span.from l.counter));
}
