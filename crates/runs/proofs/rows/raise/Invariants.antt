use Rattle.std.proofs.Common.{◌≡◌, ◌-◌, length}
use lib.Seq.{paste}
use Rattle.runs.specs.Rows.{raised}
use Rattle.runs.proofs.rows.raise.Given as goal

abbrev pub invariant-loop-i : goal.invariant-loop-i
invariant-loop-i l = record {
  long : length l.states ≡ length l.fn.states;
  list : l.states ≡ paste l.fn.states l.at (raised l.fn.states (l.at - l.back) l.amounts) l.i;
}
