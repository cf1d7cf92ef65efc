use Rattle.std.proofs.Common.{◌≡◌, ◌∙◌, to_z, of_z, w32}
use mir.Facts.{to_z-of_z}
use Rattle.mathematics.proofs.Signed.{back32, back8}
use Rattle.walker.proofs.Signs.{product_back, sum_small}
use Rattle.walker.proofs.steps.plus_times.Goals as goal

pub returns : goal.returns
returns c =
    let sign : to_z w32 (of_z w32 c.from.result) ≡ c.args.sign = back32 c.from.result c.from.type_inv ∙ c.from.ensures ∙ back8 c.args.sign c.ranges.sign.sfits in
    rw (back32 c.args.times c.ranges.times.sfits, sign, product_back c.args.x c.args.times c.args.sign c.requires.0 c.requires.1 c.requires.2, back32 c.args.x c.ranges.x.sfits)
    (to_z-of_z (sum_small c.args.x c.args.times c.args.sign c.requires.0 c.requires.1 c.requires.2))
