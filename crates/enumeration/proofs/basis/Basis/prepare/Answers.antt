use Rattle.std.proofs.Common.{refl, sym, ◌∙◌, ltb-false}
use Rattle.enumeration.proofs.Bases.{refusal_passed, record_passed, many_refused, basis_fits, basis_ready}
use Rattle.enumeration.proofs.basis.Basis.prepare.Goals as goal

pub returns-in_err-accept_truncated : goal.returns-in_err-accept_truncated
returns-in_err-accept_truncated c = refusal_passed _ _ _ _ c.from_residual.ensures.1 c.in_err-accept_truncated.ensures

pub prepare-walker-requires : goal.prepare-walker-requires
prepare-walker-requires c = record_passed _ _ c.in_ok-accept_truncated.ensures

pub too_many-requires : goal.too_many-requires
too_many-requires c = (record_passed _ _ c.in_ok-accept_truncated.ensures).1

pub returns-then-too_many : goal.returns-then-too_many
returns-then-too_many c = many_refused _ _ c.in_ok-accept_truncated.ensures _ c.prepare-walker.ensures (sym c.too_many.ensures ∙ c.if-too_many.true)

pub count_of_blocks-blocks-requires : goal.count_of_blocks-blocks-requires
count_of_blocks-blocks-requires c = ((record_passed _ _ c.in_ok-accept_truncated.ensures).1, ltb-false _ _ (sym c.too_many.ensures ∙ c.if-too_many.false))

pub invariant_of-result : goal.invariant_of-result
invariant_of-result c = record {
  fits = basis_fits _ _ c.in_ok-accept_truncated.ensures _ c.prepare-walker.ensures (ltb-false _ _ (sym c.too_many.ensures ∙ c.if-too_many.false)) _ c.count_of_blocks-blocks.ensures;
}

pub returns : goal.returns
returns c = basis_ready _ _ c.in_ok-accept_truncated.ensures _ c.prepare-walker.ensures (ltb-false _ _ (sym c.too_many.ensures ∙ c.if-too_many.false)) _ c.count_of_blocks-blocks.ensures _ refl refl refl
