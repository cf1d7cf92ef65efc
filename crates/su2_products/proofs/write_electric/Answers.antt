use Rattle.std.proofs.Common.{◌≤◌, ◌+◌, length, get_or, arith}
use mathlib.Core.Path.{ap₂}
use lib.Ieee.{binary64, nan, add, mul}
use Rattle.matrices.proofs.Literals.{zero}
use Rattle.su2_products.specs.Product.{listed_part}
use Rattle.su2_products.proofs.Blocks.{none_filled, one_filled, all_filled}
use Rattle.su2_products.proofs.write_electric.Goals as goal

pub loop-i-init : goal.loop-i-init
loop-i-init c = none_filled _ _

pub loop-i-preserved : goal.loop-i-preserved
unfolding listed_part
loop-i-preserved c =
    one_filled _ _ _ c.loop-i.i _ (omega arith) c.loop-i.invariant (ap₂ (λ z x. add binary64 z (mul binary64 x (get_or c.args.vector.now (c.args.from + c.loop-i.i) nan))) zero c.mask_energy.ensures)

pub returns : goal.returns
returns c =
    let past : length c.args.block.now ≤ c.loop-i.i = omega arith in
    all_filled _ _ _ _ past c.loop-i.invariant
