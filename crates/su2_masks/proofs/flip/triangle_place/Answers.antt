use Rattle.std.proofs.Common.{◌∙◌}
use Rattle.mathematics.proofs.Bits.{power_shifted}
use Rattle.su2_masks.proofs.Placing.{few_sliced, below_sliced, bits_sliced}
use Rattle.su2_masks.proofs.Flips.{triangle_read}
use Rattle.su2_masks.proofs.flip.triangle_place.Goals as goal

pub closing_bits-requires : goal.closing_bits-requires
closing_bits-requires c = (few_sliced _ c.requires.0, below_sliced _ c.requires.0)

pub returns : goal.returns
returns c complex t loops of =
    let sides = c.args.sides in
    rw (power_shifted sides.first c.requires.1, power_shifted sides.second c.requires.2, power_shifted sides.third c.requires.3) at c.closing_bits.ensures
    ∙ bits_sliced _ c.requires.0 _ ∙ triangle_read complex _ loops t _ _ _ of.number of.are
