use Rattle.std.proofs.Common.{take}
use Rattle.gauss_law.specs.Spanning.{Flagged}
use Rattle.gauss_law.proofs.spanning.tree_flags.Given as goal

abbrev pub invariant-loop-e : goal.invariant-loop-e
invariant-loop-e l = Flagged l.flags (take l.e-index l.tree)
