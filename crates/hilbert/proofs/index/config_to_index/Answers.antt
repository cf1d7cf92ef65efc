use Rattle.std.proofs.Common.{ap, sym, ◌∙◌, refl, length}
use borrow.Author.Tests.{eq-eqb, ne_eqb}
use Rattle.std.specs.Option.{is_none}
use Rattle.mathematics.proofs.Calls.{none, here, past, refuses, ends}
use Rattle.complex.specs.Complex.{complex_of}
use Rattle.complex.proofs.Accepting.{accepted}
use Rattle.gauss_law.proofs.Spanned.{edges_long}
use Rattle.answers.proofs.Passing.{place_passed, none_passed}
use Rattle.enumeration.proofs.Bases.{basis_refused, basis_passed}
use Rattle.hilbert.specs.Index.{index_call}
use Rattle.hilbert.proofs.Order.{in_basis_at}
use Rattle.hilbert.proofs.Unlisted.{none_in_basis, unlisted_known}
use Rattle.hilbert.proofs.Prepared.{told_refused, short_by}
use Rattle.hilbert.proofs.index.config_to_index.Goals as goal

pub returns-in_err-basis-clause-answered : goal.returns-in_err-basis-clause-answered
unfolding index_call
returns-in_err-basis-clause-answered c =
    rw (place_passed _ _ c.from_residual.ensures.1) (told_refused _ _ (basis_refused c.in_err-basis.ensures _))

pub returns-in_err-basis-clause-finding : goal.returns-in_err-basis-clause-finding
returns-in_err-basis-clause-finding c = λ f is. absurd (none_passed _ _ c.from_residual.ensures.1 f is)

pub returns-then-configuration-c-clause-answered : goal.returns-then-configuration-c-clause-answered
unfolding index_call
returns-then-configuration-c-clause-answered c =
    refuses _ (basis_passed c.in_ok-basis.ensures (here (rw (ne_eqb _ _ (λ z. c.if-configuration-c.true (z ∙ edges_long c.args.c)))))) refl

pub returns-then-is_too_short-clause-answered : goal.returns-then-is_too_short-clause-answered
unfolding index_call
returns-then-is_too_short-clause-answered c =
    let prepared = c.in_ok-basis.ensures in
    let long = c.if-configuration-c.false ∙ sym (edges_long c.args.c) in
    refuses _ (basis_passed prepared (past (rw (eq-eqb _ _ long)) (here (short_by prepared.basis _ ∙ sym c.is_too_short.ensures ∙ c.if-is_too_short.true)))) refl

pub why_unlisted-requires : goal.why_unlisted-requires
why_unlisted-requires c =
    let basis = c.in_ok-basis.ensures.basis in
    ((accepted _).1 basis.walks.walks.accepted, basis.walks.truncation, c.if-configuration-c.false)

pub returns-in-Some-clause-answered : goal.returns-in-Some-clause-answered
unfolding index_call
returns-in-Some-clause-answered c =
    let prepared = c.in_ok-basis.ensures in
    let long = c.if-configuration-c.false ∙ sym (edges_long c.args.c) in
    let room = short_by prepared.basis (length c.args.states.now) ∙ sym c.is_too_short.ensures ∙ c.if-is_too_short.false in
    let why = sym c.why_unlisted.ensures ∙ c.in-Some.is in
    refuses _ (basis_passed prepared (past (rw (eq-eqb _ _ long)) (past room (here (rw (← none_in_basis (complex_of c.args.c) c.args.lambda c.args.configuration.now, why) refl))))) refl

pub returns-in-Some-clause-finding : goal.returns-in-Some-clause-finding
returns-in-Some-clause-finding c =
    let accepted = c.in_ok-basis.ensures.basis.walks.walks.accepted in
    let long = c.if-configuration-c.false ∙ sym (edges_long c.args.c) in
    let why = sym c.why_unlisted.ensures ∙ c.in-Some.is in
    λ f is. unlisted_known _ accepted _ _ long f (why ∙ cc)

pub list_and_seek-requires : goal.list_and_seek-requires
list_and_seek-requires c =
    let basis = c.in_ok-basis.ensures.basis in
    let room = short_by basis (length c.args.states.now) ∙ sym c.is_too_short.ensures ∙ c.if-is_too_short.false in
    rw basis.truncated (record {
      complex = complex_of c.args.c;
      basis = basis.walks;
      sized = c.if-configuration-c.false ∙ sym (edges_long c.args.c);
      listed = sym (none_in_basis _ _ _) ∙ ap is_none (sym c.why_unlisted.ensures ∙ c.in_default.is);
      long = room;
    })

pub returns-clause-answered : goal.returns-clause-answered
unfolding index_call
returns-clause-answered c =
    let prepared = c.in_ok-basis.ensures in
    let walks = prepared.basis.walks in
    let found = c.list_and_seek.ensures _ _ prepared.basis in
    let long = c.if-configuration-c.false ∙ sym (edges_long c.args.c) in
    let room = short_by prepared.basis (length c.args.states.now) ∙ sym c.is_too_short.ensures ∙ c.if-is_too_short.false in
    let listed = sym (none_in_basis _ _ _) ∙ ap is_none (sym c.why_unlisted.ensures ∙ c.in_default.is) in
    ends _ (basis_passed prepared (past (rw (eq-eqb _ _ long)) (past room (past (rw listed) none))))
    (found.found (long, listed)) found.list (record { found = in_basis_at _ walks.walks.accepted _ _ long listed; few = walks.few })
