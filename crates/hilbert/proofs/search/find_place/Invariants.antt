use Rattle.std.proofs.Common.{ℕ, ◌≤◌, ◌-◌}
use Rattle.hilbert.specs.Search.{Ranked}
use Rattle.hilbert.proofs.search.find_place.Given as goal

abbrev pub invariant-loop-low : goal.invariant-loop-low
invariant-loop-low l =
    (l.low ≤ l.high) × (l.high ≤ l.n) × ((p : ℕ) → Ranked l.states l.n l.config l.free l.n_free p → (l.low ≤ p) × (p ≤ l.high))

abbrev pub decreases-loop-low : goal.decreases-loop-low
decreases-loop-low l = l.high - l.low
