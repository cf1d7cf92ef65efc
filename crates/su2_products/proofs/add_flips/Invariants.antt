use Rattle.std.proofs.Common.{◌≡◌, ◌+◌, get_or}
use lib.Ieee.{binary64, nan, add}
use Rattle.su2_products.specs.Product.{flip_part}
use Rattle.su2_products.proofs.Blocks.{part_filled}
use Rattle.su2_products.proofs.add_flips.Given as goal

abbrev pub invariant-loop-i : goal.invariant-loop-i
invariant-loop-i l = l.block ≡ part_filled (λ j. add binary64 (get_or l.initial.block j nan) (flip_part l.term l.vector l.k (l.from + j))) l.initial.block l.i
