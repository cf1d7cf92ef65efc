use Rattle.std.proofs.Common.{◌≡◌, ℕ, ◌<◌, ◌≤◌, false}
use Rattle.plaquettes.specs.Pairs.{row_stays}
use Rattle.plaquettes.proofs.pairs.next_staying.Given as goal

abbrev pub invariant-loop-place : goal.invariant-loop-place
invariant-loop-place l = (k : ℕ) → l.fn.from ≤ k → k < l.place → row_stays l.list l.s l.sides l.by k ≡ false
