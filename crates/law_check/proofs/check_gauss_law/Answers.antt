use Rattle.std.proofs.Common.{refl, sym, ◌∙◌}
use borrow.Author.Tests.{eq-eqb, ne_eqb}
use Rattle.mathematics.proofs.Calls.{none, here, past, refuses, ends}
use Rattle.answers.proofs.Numbers.{number_positive}
use Rattle.answers.proofs.Passing.{answer_passed}
use Rattle.complex.proofs.Refusing.{record_refuses, past_record}
use Rattle.law_check.specs.Law.{law_call}
use Rattle.gauss_law.proofs.Spanned.{edges_long}
use Rattle.law_check.proofs.Findings.{law_known}
use Rattle.law_check.proofs.check_gauss_law.Goals as goal

pub returns-in_err-accept : goal.returns-in_err-accept
unfolding law_call
returns-in_err-accept c =
    rw (answer_passed _ _ c.from_residual.ensures.1)
    (refuses _ (record_refuses _ c.in_err-accept.ensures (number_positive _) _) (ne_eqb _ 0 (number_positive _)))

pub returns-then-configuration-c : goal.returns-then-configuration-c
unfolding law_call
returns-then-configuration-c c =
    refuses _ (past_record _ (sym c.in_ok-accept.ensures) (here (rw (ne_eqb _ _ (λ z. c.if-configuration-c.true (z ∙ edges_long c.args.c)))))) refl

pub returns : goal.returns
unfolding law_call
returns c =
    ends _ (past_record _ (sym c.in_ok-accept.ensures) (past (rw (eq-eqb _ _ (c.if-configuration-c.false ∙ sym (edges_long c.args.c)))) none))
    c.find_unlawful.ensures refl (law_known _ _ _)
