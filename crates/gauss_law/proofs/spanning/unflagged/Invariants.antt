use Rattle.gauss_law.specs.Spanning.{Unflagged}
use Rattle.gauss_law.proofs.spanning.unflagged.Given as goal

abbrev pub invariant-loop-e : goal.invariant-loop-e
invariant-loop-e l = Unflagged l.flags l.e l.free
