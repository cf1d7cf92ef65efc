use Rattle.std.proofs.Common.{◌≡◌, length}
use Rattle.cycles.specs.Cycles.{row}
use Rattle.walker.specs.Walker.{walked_states}
use Rattle.walker.specs.Steps.{Walkable}
use Rattle.cursor.proofs.Cursor.first.Given as goal

abbrev pub invariant-loop-behind : goal.invariant-loop-behind
invariant-loop-behind l = record {
  walkable : Walkable l.w.free l.w.cycles l.lambda l.w.n_free l.config l.behind;
  states : walked_states l.w.free (row (length l.config) l.w.cycles) l.lambda l.w.n_free l.config l.behind ≡ walked_states l.w.free (row (length l.initial.config) l.w.cycles) l.lambda l.w.n_free l.initial.config l.blocks;
}
