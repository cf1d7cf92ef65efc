use Rattle.std.proofs.Common.{◌≡◌, ◌*◌, ◌≤◌, take, length}
use Rattle.walker.specs.Tables.{states_of}
use Rattle.cursor.specs.Cursor.{states_from, Standing, CursorAt}
use Rattle.entries.specs.Count.{over_states, row_entries}
use Rattle.entries.proofs.count.count_rows.Given as goal

abbrev pub invariant-loop-here : goal.invariant-loop-here
invariant-loop-here l = record {
  standing : Standing l.w.free l.w.cycles l.lambda l.w.n_free l.config l.here;
  at : CursorAt l.w.free l.w.cycles l.lambda l.w.n_free (states_of l.w l.lambda l.basis.blocks) l.config l.here;
  counted : l.total ≡ over_states (row_entries l.lambda l.all l.n) (take l.here.number (states_of l.w l.lambda l.basis.blocks));
  few : l.total ≤ 513 * l.here.number;
}

abbrev pub decreases-loop-here : goal.decreases-loop-here
decreases-loop-here l = length (states_from l.w.free l.w.cycles l.lambda l.w.n_free l.config l.here)
