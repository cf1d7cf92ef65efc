use Rattle.std.proofs.Common.{◌≡◌, ◌+◌, ◌*ℤ◌, pos, neg_ℤ, min, max, to_z, of_z, w32, arith, eq-eqb, sym, ap, ap₂, ◌∙◌}
use Rattle.std.proofs.lemmas.Int.{to_z_pos}
use borrow.Author.Tests.{ne_eqb}
use mir.Syntax.{w8}
use Rattle.mathematics.proofs.Signed.{zero_bits, back32, back8}
use Rattle.walker.proofs.Narrowing.{narrow_inside, narrow_outside, narrow_signed}
use Rattle.walker.proofs.blocks.Span.narrow.Goals as goal

pub returns-then-within : goal.returns-then-within
returns-then-within c =
    narrow_inside _ _ _ _ _ c.requires.0 (sym (zero_bits w8 c.args.sign c.ranges.sign) ∙ eq-eqb _ 0 c.if-sign-eq0.true) (rw (back32 c.args.x c.ranges.x.sfits) at (sym c.within.ensures ∙ c.if-within.true))

pub returns-then-sign-eq0 : goal.returns-then-sign-eq0
returns-then-sign-eq0 c =
    narrow_outside _ _ _ _ _ c.requires.0 (sym (zero_bits w8 c.args.sign c.ranges.sign) ∙ eq-eqb _ 0 c.if-sign-eq0.true) (rw (back32 c.args.x c.ranges.x.sfits) at (sym c.within.ensures ∙ c.if-within.false)) _ c.max.ensures

pub returns : goal.returns
returns c =
    let turned : to_z w32 (of_z w32 c.turn-y.result) ≡ c.args.sign *ℤ c.args.x =
    back32 c.turn-y.result c.turn-y.type_inv ∙ c.turn-y.ensures ∙ ap₂ ◌*ℤ◌ (back8 c.args.sign c.ranges.sign.sfits) (back32 c.args.x c.ranges.x.sfits) in
    let low : to_z w32 (of_z w32 c.negative.result) ≡ neg_ℤ (pos c.args.lambda) = back32 c.negative.result c.negative.type_inv ∙ c.negative.ensures in
    let high : to_z w32 (c.args.lambda + 1) ≡ pos (c.args.lambda + 1) = to_z_pos w32 _ (omega (arith, c.requires.3)) in
    narrow_signed _ _ _ _ _ c.requires.0 (sym (zero_bits w8 c.args.sign c.ranges.sign) ∙ ne_eqb _ 0 c.if-sign-eq0.false) _ _ (c.max-2.ensures ∙ ap (max c.args.self.from) (rw (low, turned) at c.excess.ensures)) (c.min.ensures ∙ ap (min c.args.self.to) (rw (high, turned) at c.excess-2.ensures))
