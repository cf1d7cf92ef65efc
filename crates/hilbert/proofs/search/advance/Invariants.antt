use Rattle.std.proofs.Common.{ℕ, ◌≤◌}
use Rattle.hilbert.specs.Search.{Ranked}
use Rattle.hilbert.proofs.search.advance.Given as goal

abbrev pub invariant-loop-place : goal.invariant-loop-place
invariant-loop-place l = (p : ℕ) → Ranked l.states l.n l.config l.free l.n_free p → l.from ≤ p → l.place ≤ p
