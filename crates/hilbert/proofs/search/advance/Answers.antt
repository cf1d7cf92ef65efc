use Rattle.std.proofs.Common.{sym, ◌∙◌, arith}
use borrow.Author.Tests.{ltb-false}
use Rattle.hilbert.proofs.search.advance.Goals as goal

pub returns-then-not-before_at : goal.returns-then-not-before_at
returns-then-not-before_at c p r h =
    omega (arith, c.loop-place.invariant p r h, ltb-false c.loop-place.place p (sym (r.rows c.loop-place.place (omega arith)) ∙ sym c.before_at.ensures ∙ c.if-not-before_at.true))

pub returns : goal.returns
returns c p r h = omega (arith, c.loop-place.invariant p r h, r.within)
