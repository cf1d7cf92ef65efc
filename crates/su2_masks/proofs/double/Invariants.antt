use Rattle.std.proofs.Common.{◌≡◌, ◌++◌, map, take, drop}
use Rattle.std.specs.Int.Bits.{bit_xor}
use Rattle.su2_masks.proofs.double.Given as goal

abbrev pub invariant-loop-i : goal.invariant-loop-i
invariant-loop-i l = l.rest ≡ map (λ x. bit_xor x l.cycle) (take l.i l.mask-items) ++ drop l.i l.initial.rest
