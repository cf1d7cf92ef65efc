use Rattle.std.proofs.Common.{ℕ, ◌<◌, ◌≤◌, get_or, nat_abs, pos}
use Rattle.runs.proofs.edges.all_within.Given as goal

abbrev pub invariant-loop-e : goal.invariant-loop-e
invariant-loop-e l = (q : ℕ) → q < l.e-index → nat_abs (get_or l.config (get_or l.list q 0) (pos 0)) ≤ l.lambda
