use Rattle.std.proofs.Common.{◌≡◌, ◌+ℤ◌, w32, to_z, of_z, FitsSigned, sym, ◌∙◌, rules}
use Rattle.mathematics.proofs.Signed.{back32}
use Rattle.gauss_law.specs.Gauss.{within}
use Rattle.shifts.proofs.Shifting.{far_from_band}
use Rattle.shifts.proofs.sum_within.Goals as goal

pub returns-in-Some : goal.returns-in-Some
unfolding within
returns-in-Some c =
    let fits : FitsSigned w32 c.in-Some.sum = search rules in
    (back32 _ fits.sfits ∙ c.in-Some.ensures.1 ∙ rw (back32 c.args.x c.ranges.x.sfits, back32 c.args.delta c.ranges.delta.sfits), sym c.within.ensures ∙ c.if-within.true)

pub returns-in_default : goal.returns-in_default
unfolding within
returns-in_default c =
    let fits : FitsSigned w32 c.in-Some.sum = search rules in
    let value : to_z w32 (of_z w32 c.in-Some.sum) ≡ c.args.x +ℤ c.args.delta =
    back32 _ fits.sfits ∙ c.in-Some.ensures.1 ∙ rw (back32 c.args.x c.ranges.x.sfits, back32 c.args.delta c.ranges.delta.sfits) in
    sym (rw value at c.within.ensures) ∙ c.if-within.false

pub returns-in_default-2 : goal.returns-in_default-2
returns-in_default-2 c =
    far_from_band _ _ c.requires (λ f. c.in_default.ensures (rw (back32 c.args.x c.ranges.x.sfits, back32 c.args.delta c.ranges.delta.sfits) f))
