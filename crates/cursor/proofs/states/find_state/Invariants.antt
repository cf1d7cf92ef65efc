use Rattle.std.proofs.Common.{◌<◌, ◌≤◌, length}
use Rattle.cursor.specs.Cursor.{states_from, Standing, CursorAt}
use Rattle.cursor.proofs.states.find_state.Given as goal

abbrev pub invariant-loop-c : goal.invariant-loop-c
invariant-loop-c l = record {
  standing : Standing l.w.free l.w.cycles l.lambda l.w.n_free l.config l.c;
  at : CursorAt l.w.free l.w.cycles l.lambda l.w.n_free (states_from l.w.free l.w.cycles l.lambda l.w.n_free l.initial.config l.initial.c) l.config l.c;
  more : 0 < l.c.left;
  before : l.c.number ≤ l.place;
}

abbrev pub decreases-loop-c : goal.decreases-loop-c
decreases-loop-c l = length (states_from l.w.free l.w.cycles l.lambda l.w.n_free l.config l.c)
