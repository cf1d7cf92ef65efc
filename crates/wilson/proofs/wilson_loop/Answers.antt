use Rattle.std.proofs.Common.{◌≡◌, sym, ◌∙◌, refl, length, true, false}
use borrow.Author.Tests.{eqb-true, not-false, lt-ltb, le-ltb}
use Rattle.mathematics.proofs.Tests.{or_fell}
use Rattle.mathematics.proofs.Calls.{none, here, past, refuses, ends}
use Rattle.complex.specs.Complex.{complex_of}
use Rattle.answers.proofs.Passing.{answer_passed}
use Rattle.enumeration.specs.Enumeration.{short}
use Rattle.enumeration.proofs.Bases.{basis_refused, basis_passed}
use Rattle.hilbert.proofs.Prepared.{told_refused, states_listed, short_by}
use Rattle.plaquettes.proofs.Listed.{listed_counted}
use Rattle.wilson.specs.Wilson.{wilson_call}
use Rattle.wilson.proofs.Judging.{path_fits, lengths_told}
use Rattle.wilson.proofs.wilson_loop.Goals as goal

pub returns-in_err-basis : goal.returns-in_err-basis
unfolding wilson_call
returns-in_err-basis c =
    rw (answer_passed _ _ c.from_residual.ensures.1) (told_refused _ _ (basis_refused c.in_err-basis.ensures _))

pub returns-then-amplitudes-count : goal.returns-then-amplitudes-count
unfolding wilson_call
returns-then-amplitudes-count c =
    let lengths = lengths_told _ _ _ _ _ (c.count.ensures ∙ states_listed c.in_ok-basis.ensures.basis) c.if-amplitudes-count.true in
    refuses _ (basis_passed c.in_ok-basis.ensures (here lengths)) refl

pub is_right-requires : goal.is_right-requires
is_right-requires c = eqb-true _ _ (not-false _ (or_fell _ _ c.if-amplitudes-count.false).1)

pub returns-then-not-is_right : goal.returns-then-not-is_right
unfolding wilson_call
returns-then-not-is_right c =
    let basis = c.in_ok-basis.ensures.basis in
    let lengths = lengths_told _ _ _ _ _ (c.count.ensures ∙ states_listed basis) c.if-amplitudes-count.false in
    let steps = rw basis.walks.walks.edges at (sym c.is_right.ensures ∙ c.if-not-is_right.true) in
    refuses _ (basis_passed c.in_ok-basis.ensures (past lengths (here (rw steps)))) refl

pub returns-then-not-all_bounded : goal.returns-then-not-all_bounded
unfolding wilson_call
returns-then-not-all_bounded c =
    let basis = c.in_ok-basis.ensures.basis in
    let lengths = lengths_told _ _ _ _ _ (c.count.ensures ∙ states_listed basis) c.if-amplitudes-count.false in
    let steps = rw basis.walks.walks.edges at (sym c.is_right.ensures ∙ c.if-not-is_right.false) in
    let unbounded = sym c.all_bounded.ensures ∙ c.if-not-all_bounded.true in
    refuses _ (basis_passed c.in_ok-basis.ensures (past lengths (past (rw steps) (here (rw unbounded))))) refl

pub returns-then-states-amplitudes : goal.returns-then-states-amplitudes
unfolding wilson_call
returns-then-states-amplitudes c =
    let basis = c.in_ok-basis.ensures.basis in
    let lengths = lengths_told _ _ _ _ _ (c.count.ensures ∙ states_listed basis) c.if-amplitudes-count.false in
    let steps = rw basis.walks.walks.edges at (sym c.is_right.ensures ∙ c.if-not-is_right.false) in
    let bounded = sym c.all_bounded.ensures ∙ c.if-not-all_bounded.false in
    let same = eqb-true _ _ (not-false _ (or_fell _ _ c.if-amplitudes-count.false).0) ∙ c.count.ensures in
    let room : short (complex_of c.args.c) c.args.lambda (length c.args.states.now) ≡ true = rw (short_by basis (length c.args.states.now), ← same) (lt-ltb _ _ c.if-states-amplitudes.true) in
    refuses _ (basis_passed c.in_ok-basis.ensures (past lengths (past (rw steps) (past (rw bounded) (here room))))) refl

pub list_states-s-requires : goal.list_states-s-requires
list_states-s-requires c =
    let same = eqb-true _ _ (not-false _ (or_fell _ _ c.if-amplitudes-count.false).0) ∙ c.count.ensures in
    rw (← same) c.if-states-amplitudes.false

pub wilson_sum-requires : goal.wilson_sum-requires
wilson_sum-requires c =
    let basis = c.in_ok-basis.ensures.basis in
    let listed = c.list_states-s.ensures _ _ basis in
    let fell = or_fell _ _ c.if-amplitudes-count.false in
    let same = eqb-true _ _ (not-false _ fell.0) ∙ c.count.ensures in
    let steps = rw basis.walks.walks.edges at (sym c.is_right.ensures ∙ c.if-not-is_right.false) in (
      record {
        complex = _;
        basis = listed.basis;
        one_each = sym (listed_counted listed (same ∙ states_listed basis));
      },
      rw listed.basis.edges (path_fits _ _ _ (eqb-true _ _ (not-false _ fell.1)) steps),
    )

pub returns : goal.returns
unfolding wilson_call
returns c =
    let basis = c.in_ok-basis.ensures.basis in
    let listed = c.list_states-s.ensures _ _ basis in
    let lengths = lengths_told _ _ _ _ _ (c.count.ensures ∙ states_listed basis) c.if-amplitudes-count.false in
    let steps = rw basis.walks.walks.edges at (sym c.is_right.ensures ∙ c.if-not-is_right.false) in
    let bounded = sym c.all_bounded.ensures ∙ c.if-not-all_bounded.false in
    let same = eqb-true _ _ (not-false _ (or_fell _ _ c.if-amplitudes-count.false).0) ∙ c.count.ensures in
    let room : short (complex_of c.args.c) c.args.lambda (length c.args.states.now) ≡ false = rw (short_by basis (length c.args.states.now), ← same) (le-ltb _ _ c.if-states-amplitudes.false) in
    ends _ (basis_passed c.in_ok-basis.ensures (past lengths (past (rw steps) (past (rw bounded) (past room none)))))
    (rw listed.truncated at (c.wilson_sum.ensures _ listed.basis)) listed.list tt
