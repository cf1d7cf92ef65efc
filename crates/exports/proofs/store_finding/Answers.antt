use Rattle.std.proofs.Common.{refl, rules, w64, FitsSigned}
use Rattle.mathematics.proofs.Signed.{back64}
use Rattle.exports.proofs.store_finding.Goals as goal

pub returns-in-BreaksLaw : goal.returns-in-BreaksLaw
returns-in-BreaksLaw c =
    let fits : FitsSigned w64 c.in-BreaksLaw.unlawful.excess = search rules in
    rw (c.in-BreaksLaw.is, back64 c.in-BreaksLaw.unlawful.excess fits.sfits) refl

pub returns-in-OutsideBand : goal.returns-in-OutsideBand
returns-in-OutsideBand c = rw (c.in-OutsideBand.is) refl
