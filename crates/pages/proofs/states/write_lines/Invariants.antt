use Rattle.std.proofs.Common.{◌≡◌, ◌≤◌, ◌++◌, take, length}
use Rattle.cursor.specs.Cursor.{states_from, Standing}
use Rattle.lines.specs.Lines.{state_lines}
use Rattle.pages.proofs.states.write_lines.Given as goal

abbrev pub invariant-loop-here : goal.invariant-loop-here
invariant-loop-here l = record {
  room : l.len ≤ length l.out;
  standing : Standing l.w.free l.w.cycles l.lambda l.w.n_free l.config l.here;
  joined : state_lines l.initial.here.number (states_from l.w.free l.w.cycles l.lambda l.w.n_free l.initial.config l.initial.here) ≡ take l.len l.out ++ state_lines l.here.number (states_from l.w.free l.w.cycles l.lambda l.w.n_free l.config l.here);
  some : l.len ≡ 0 → l.here.left ≡ l.initial.here.left;
}

abbrev pub decreases-loop-here : goal.decreases-loop-here
decreases-loop-here l = length (states_from l.w.free l.w.cycles l.lambda l.w.n_free l.config l.here)
