use Rattle.std.proofs.Common.{◌+◌, ◌-◌, ◌/◌, ℕ, sym, ◌∙◌, arith}
use borrow.Author.Tests.{ltb-false, ltb-true}
use Rattle.hilbert.proofs.search.find_place.Goals as goal

pub loop-low-preserved-then-before_at : goal.loop-low-preserved-then-before_at
loop-low-preserved-then-before_at c =
    let middle : ℕ = c.loop-low.low + (c.loop-low.high - c.loop-low.low) / 2 in (
      omega arith,
      omega arith,
      λ p r. (omega (arith, ltb-true middle p (sym (r.rows middle (omega arith)) ∙ sym c.before_at.ensures ∙ c.if-before_at.true)), (c.loop-low.invariant.2 p r).1),
    )

pub loop-low-preserved : goal.loop-low-preserved
loop-low-preserved c =
    let middle : ℕ = c.loop-low.low + (c.loop-low.high - c.loop-low.low) / 2 in (
      omega arith,
      omega arith,
      λ p r. ((c.loop-low.invariant.2 p r).0, ltb-false middle p (sym (r.rows middle (omega arith)) ∙ sym c.before_at.ensures ∙ c.if-before_at.false)),
    )

pub returns : goal.returns
returns c p r = let h = c.loop-low.invariant.2 p r in omega arith
