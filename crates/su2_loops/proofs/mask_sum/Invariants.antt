use Rattle.std.proofs.Common.{◌≡◌, length}
use Rattle.su2_loops.specs.Loop.{mask_sum}
use Rattle.su2_loops.proofs.mask_sum.Given as goal

abbrev pub invariant-loop-amplitude : goal.invariant-loop-amplitude
invariant-loop-amplitude l = l.sum ≡ mask_sum l.vector l.states l.mask (length l.yielded)
