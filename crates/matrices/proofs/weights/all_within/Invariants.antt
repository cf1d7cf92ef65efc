use Rattle.std.proofs.Common.{◌≡◌, take}
use Rattle.mathematics.specs.Tests.{every_entry}
use Rattle.matrices.specs.Weights.{within}
use Rattle.matrices.proofs.weights.all_within.Given as goal

abbrev pub invariant-loop-x : goal.invariant-loop-x
invariant-loop-x l = l.so_far ≡ every_entry (within l.limit) (take l.x-index l.list)
