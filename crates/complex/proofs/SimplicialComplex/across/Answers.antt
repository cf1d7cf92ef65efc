use Rattle.std.proofs.Common.{sym, ◌∙◌}
use borrow.Author.Tests.{eq-eqb, ne_eqb}
use Rattle.complex.specs.Complex.{entries}
use Rattle.complex.specs.Search.{across}
use Rattle.complex.proofs.SimplicialComplex.across.Goals as goal

pub returns-then-a-v : goal.returns-then-a-v
unfolding entries across
returns-then-a-v c = c.edge-a.ensures.second ∙ rw (eq-eqb _ _ (sym c.edge-a.ensures.first ∙ c.if-a-v.true))

pub returns-else-a-v : goal.returns-else-a-v
unfolding entries across
returns-else-a-v c = rw (← c.edge-a.ensures.first, ne_eqb _ _ c.if-a-v.false)
