use Rattle.basis.proofs.Ends.{answered, refused}
use Rattle.basis.proofs.finish.Goals as goal

pub returns-then-number-eq0 : goal.returns-then-number-eq0
returns-then-number-eq0 c = rw (c.in_default.is) (answered _ c.if-number-eq0.true)

pub returns : goal.returns
returns c = rw (c.in_default.is) (refused _ c.if-number-eq0.false)
