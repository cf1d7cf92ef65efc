use Rattle.std.proofs.Common.{sym, ◌∙◌}
use Rattle.matrices.proofs.Couplings.{coupling_refused, coupling_told}
use Rattle.matrices.proofs.coupling.checked.Goals as goal

pub returns-then-not-in_range : goal.returns-then-not-in_range
returns-then-not-in_range c = coupling_refused _ (sym c.in_range.ensures ∙ c.if-not-in_range.true)

pub returns : goal.returns
returns c = coupling_told _ (sym c.in_range.ensures ∙ c.if-not-in_range.false)
