use Rattle.std.proofs.Common.{◌≡◌, ◌++◌, drop}
use Rattle.lanczos.specs.Walk.{electric_parts}
use Rattle.lanczos.proofs.matvec.write_electric.Given as goal

abbrev pub invariant-loop-i : goal.invariant-loop-i
invariant-loop-i l = l.sum-items ≡ electric_parts l.factor l.m l.list l.vector l.i ++ drop l.i l.initial.sum-items
