use Rattle.std.proofs.Common.{refl}
use Rattle.hilbert.specs.Basis.{why_unlisted}
use Rattle.hilbert.proofs.index.why_unlisted.Goals as goal

pub returns-in-Some : goal.returns-in-Some
unfolding why_unlisted
returns-in-Some c = rw (← c.find_unlawful.ensures, c.in-Some.is) refl

pub returns-in_err-edge : goal.returns-in_err-edge
unfolding why_unlisted
returns-in_err-edge c = rw (← c.find_unlawful.ensures, c.in_default.is, ← c.find_outside.ensures, c.in_err-edge.was) c.from_residual.ensures

pub returns : goal.returns
unfolding why_unlisted
returns c = rw (← c.find_unlawful.ensures, c.in_default.is, ← c.find_outside.ensures, c.in_ok-edge.was) refl
