use Rattle.std.proofs.Common.{◌≡◌, sym, ◌∙◌, refl, length, true, false, ltb, ◌||◌}
use borrow.Author.Tests.{eq-eqb, ne_eqb, ltb-false}
use Rattle.mathematics.proofs.Tests.{or_fell}
use Rattle.mathematics.proofs.Calls.{none, here, past, refuses, ends, both}
use Rattle.complex.specs.Complex.{complex_of}
use Rattle.answers.proofs.Passing.{answer_passed}
use Rattle.enumeration.specs.Enumeration.{short}
use Rattle.enumeration.proofs.Bases.{basis_refused, basis_passed}
use Rattle.hilbert.proofs.Prepared.{told_refused, states_listed, short_by, written_by}
use Rattle.electric.specs.Electric.{electric_call}
use Rattle.electric.proofs.FieldSums.{squares_written}
use Rattle.electric.proofs.electric_field_sq.Goals as goal

pub returns-in_err-basis : goal.returns-in_err-basis
unfolding electric_call
returns-in_err-basis c =
    rw (answer_passed _ _ c.from_residual.ensures.1) (told_refused _ _ (basis_refused c.in_err-basis.ensures _))

pub returns-then-amplitudes-count : goal.returns-then-amplitudes-count
unfolding electric_call
returns-then-amplitudes-count c =
    let counted = c.count.ensures ∙ states_listed c.in_ok-basis.ensures.basis in
    refuses _ (basis_passed c.in_ok-basis.ensures (here (rw (ne_eqb _ _ (λ z. c.if-amplitudes-count.true (z ∙ sym counted)))))) refl

pub returns-then-not-all_bounded : goal.returns-then-not-all_bounded
unfolding electric_call
returns-then-not-all_bounded c =
    let counted = c.if-amplitudes-count.false ∙ c.count.ensures ∙ states_listed c.in_ok-basis.ensures.basis in
    refuses _ (basis_passed c.in_ok-basis.ensures (past (rw (eq-eqb _ _ counted)) (here (rw (sym c.all_bounded.ensures ∙ c.if-not-all_bounded.true))))) refl

pub returns-then-states-amplitudes : goal.returns-then-states-amplitudes
unfolding electric_call
returns-then-states-amplitudes c =
    let basis = c.in_ok-basis.ensures.basis in
    let same = c.if-amplitudes-count.false ∙ c.count.ensures in
    let bounded = sym c.all_bounded.ensures ∙ c.if-not-all_bounded.false in
    let rooms : (short (complex_of c.args.c) c.args.lambda (length c.args.states.now) || ltb (length c.args.res.now) (length (complex_of c.args.c).edges)) ≡ true = rw (short_by basis (length c.args.states.now), ← same, ← basis.walks.walks.edges) c.if-states-amplitudes.true in
    refuses _ (basis_passed c.in_ok-basis.ensures (past (rw (eq-eqb _ _ (same ∙ states_listed basis))) (past (rw bounded) (here rooms)))) refl

pub write-requires : goal.write-requires
write-requires c =
    let same = c.if-amplitudes-count.false ∙ c.count.ensures in
    rw (← same) (ltb-false _ _ (or_fell _ _ c.if-states-amplitudes.false).0)

pub write_sums-requires : goal.write_sums-requires
write_sums-requires c =
    let basis = c.in_ok-basis.ensures.basis in
    let same = c.if-amplitudes-count.false ∙ c.count.ensures ∙ states_listed basis in
    let fell = or_fell _ _ c.if-states-amplitudes.false in
    (rw same basis.walks.few, basis.walks.fit.edges, rw c.write.auto.states (ltb-false _ _ fell.0), ltb-false _ _ fell.1)

pub returns : goal.returns
unfolding electric_call
returns c =
    let basis = c.in_ok-basis.ensures.basis in
    let walks = basis.walks.walks in
    let same = c.if-amplitudes-count.false ∙ c.count.ensures in
    let many = same ∙ states_listed basis in
    let bounded = sym c.all_bounded.ensures ∙ c.if-not-all_bounded.false in
    let rooms : (short (complex_of c.args.c) c.args.lambda (length c.args.states.now) || ltb (length c.args.res.now) (length (complex_of c.args.c).edges)) ≡ false = rw (short_by basis (length c.args.states.now), ← same, ← walks.edges) c.if-states-amplitudes.false in
    let work = (written_by basis _ _ _ c.write.ensures).1 in
    ends _ (basis_passed c.in_ok-basis.ensures (past (rw (eq-eqb _ _ many)) (past (rw bounded) (past rooms none))))
    walks.edges
    (both work (squares_written _ walks.accepted _ _ _ _ work _ _ many walks.edges _ _ (ltb-false _ _ (or_fell _ _ c.if-states-amplitudes.false).1) c.write_sums.ensures))
    walks.accepted.few_edges
