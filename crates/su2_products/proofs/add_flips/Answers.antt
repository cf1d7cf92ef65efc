use Rattle.std.proofs.Common.{◌<◌, ◌≤◌, ◌+◌, length, ap, arith}
use lib.Ieee.{binary64, add}
use Rattle.su2_products.specs.Product.{flip_part}
use Rattle.su2_products.proofs.Blocks.{none_filled, not_filled, one_filled, all_filled}
use Rattle.su2_products.proofs.add_flips.Goals as goal

pub loop-i-init : goal.loop-i-init
loop-i-init c = none_filled _ _

pub loop-i-preserved : goal.loop-i-preserved
loop-i-preserved c =
    let room : c.loop-i.i < length c.args.block.now = omega arith in
    one_filled _ _ _ c.loop-i.i _ room c.loop-i.invariant (ap (λ x. add binary64 x (flip_part c.args.term c.args.vector.now c.args.k (c.args.from + c.loop-i.i))) (not_filled _ _ _ c.loop-i.i room c.loop-i.invariant))

pub returns : goal.returns
returns c =
    let past : length c.args.block.now ≤ c.loop-i.i = omega arith in
    all_filled _ _ _ _ past c.loop-i.invariant
