use Rattle.std.proofs.Common.{◌≡◌, ◌+◌}
use Rattle.su2_products.specs.Product.{listed_part}
use Rattle.su2_products.proofs.Blocks.{part_filled}
use Rattle.su2_products.proofs.write_electric.Given as goal

abbrev pub invariant-loop-i : goal.invariant-loop-i
invariant-loop-i l = l.block ≡ part_filled (λ j. listed_part l.electric l.states l.vector (l.from + j)) l.initial.block l.i
