use Rattle.std.proofs.Common.{ℕ, List, length}
use Rattle.std.specs.Prelude.{Float}
use Rattle.electric.specs.Electric.{Begins}
use Rattle.electric.proofs.Beginnings.{replaced, with_state}
use Rattle.electric.proofs.add_state.Given as goal

abbrev pub invariant-loop-e : goal.invariant-loop-e
invariant-loop-e l =
    (f : ℕ → Float) (old : List Float) → Begins f (length l.state) old l.fn.res → Begins (replaced f (with_state l.state l.square f) l.e) (length l.state) old l.res
