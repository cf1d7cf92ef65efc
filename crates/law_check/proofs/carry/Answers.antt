use Rattle.std.proofs.Common.{◌∙◌}
use Rattle.mathematics.proofs.Signed.{back32, size_within}
use Rattle.law_check.proofs.Summed.{carried}
use Rattle.law_check.proofs.carry.Goals as goal

pub returns : goal.returns
returns c = carried _ _ _ _ _ _ (c.from.ensures ∙ back32 c.args.x c.ranges.x.sfits) (c.from-2.ensures ∙ back32 c.args.x c.ranges.x.sfits) c.requires.0 c.requires.1 (size_within c.args.x c.ranges.x.sfits)
