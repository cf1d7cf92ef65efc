use Rattle.std.proofs.Common.{◌≡◌, ◌≤◌, sym, ap, ◌∙◌, refl, length, false, arith, rules, pos, get_or, w32, FitsSigned}
use Rattle.std.specs.Option.{is_none}
use borrow.Author.Tests.{eq-eqb, ne_eqb, le-leb, lt-leb}
use Rattle.mathematics.proofs.Tests.{or_fell}
use Rattle.mathematics.proofs.Calls.{none, here, past, refuses, ends, both}
use Rattle.complex.specs.Complex.{complex_of}
use Rattle.complex.proofs.Accepting.{accepted}
use Rattle.gauss_law.proofs.Spanned.{edges_long}
use Rattle.gauss_law.specs.Shifts.{raised, shifted}
use Rattle.gauss_law.proofs.Shifts.{shifted_length}
use Rattle.answers.proofs.Passing.{place_passed, none_passed}
use Rattle.enumeration.proofs.Bases.{basis_refused, basis_passed}
use Rattle.hilbert.proofs.Order.{in_basis_at}
use Rattle.hilbert.proofs.Unlisted.{none_in_basis}
use Rattle.hilbert.proofs.Prepared.{told_refused, short_by}
use Rattle.shifts.specs.Shift.{shift_call}
use Rattle.shifts.proofs.Shifting.{raised_is, begins_shifted, shift_inside, shift_room, shift_band, shift_row, shift_unlisted}
use Rattle.gauss_law.specs.Gauss.{within}
use Rattle.shifts.proofs.apply_shift.Goals as goal

pub returns-in_err-basis-clause-answered : goal.returns-in_err-basis-clause-answered
unfolding shift_call
returns-in_err-basis-clause-answered c =
    rw (place_passed _ _ c.from_residual.ensures.1) (told_refused _ _ (basis_refused c.in_err-basis.ensures _))

pub returns-in_err-basis-clause-finding : goal.returns-in_err-basis-clause-finding
returns-in_err-basis-clause-finding c = λ f is. absurd (none_passed _ _ c.from_residual.ensures.1 f is)

pub returns-then-configuration-m-clause-answered : goal.returns-then-configuration-m-clause-answered
unfolding shift_call
returns-then-configuration-m-clause-answered c =
    refuses _ (basis_passed c.in_ok-basis.ensures (here (rw (ne_eqb _ _ (λ z. c.if-configuration-m.true (z ∙ edges_long c.args.c)))))) refl

pub returns-then-m-edge-clause-answered : goal.returns-then-m-edge-clause-answered
unfolding shift_call
returns-then-m-edge-clause-answered c =
    let edges = edges_long c.args.c in
    refuses _ (basis_passed c.in_ok-basis.ensures
    (past (rw (eq-eqb _ _ (c.if-configuration-m.false ∙ sym edges))) (here (rw edges (le-leb _ _ c.if-m-edge.true))))) refl

pub returns-then-is_too_short-res-clause-answered : goal.returns-then-is_too_short-res-clause-answered
unfolding shift_call
returns-then-is_too_short-res-clause-answered c =
    let prepared = c.in_ok-basis.ensures in
    let edges = edges_long c.args.c in
    refuses _ (basis_passed prepared
    (past (rw (eq-eqb _ _ (c.if-configuration-m.false ∙ sym edges))) (past (rw edges (lt-leb _ _ c.if-m-edge.false))
    (here (rw (short_by prepared.basis (length c.args.states.now), ← c.is_too_short.ensures, edges) c.if-is_too_short-res.true))))) refl

pub returns-in_default-clause-answered : goal.returns-in_default-clause-answered
unfolding shift_call
returns-in_default-clause-answered c =
    let long = c.if-configuration-m.false ∙ sym (edges_long c.args.c) in
    let inside = shift_inside c.args.c c.args.edge c.if-m-edge.false in
    let room = shift_room c.args.c c.args.lambda _ c.in_ok-basis.ensures.basis (length c.args.states.now) (length c.args.res.now) _ c.is_too_short.ensures c.if-is_too_short-res.false in
    let x : FitsSigned w32 (get_or c.args.configuration.now c.args.edge (pos 0)) = search rules in
    let left : within c.args.lambda (raised c.args.configuration.now c.args.edge c.args.delta) ≡ false = rw (← raised_is c.args.configuration.now c.args.edge c.args.delta x c.ranges.delta) c.in_default.ensures in
    refuses _ (basis_passed c.in_ok-basis.ensures (past (rw (eq-eqb _ _ long)) (past inside (past room (here (rw left)))))) refl

pub shifted_row-shifted-requires : goal.shifted_row-shifted-requires
shifted_row-shifted-requires c =
    let few : c.args.c.n_edges ≤ 63 = rw (← edges_long c.args.c) c.in_ok-basis.ensures.basis.walks.walks.accepted.few_edges in
    (omega arith, omega arith)

pub why_unlisted-requires : goal.why_unlisted-requires
why_unlisted-requires c =
    let walks = c.in_ok-basis.ensures.basis.walks in
    let x : FitsSigned w32 (get_or c.args.configuration.now c.args.edge (pos 0)) = search rules in
    let fits : FitsSigned w32 c.in-Some.value = search rules in
    let row = shift_row c.args.lambda c.args.configuration.now c.args.edge c.args.delta x c.ranges.delta c.in-Some.value fits c.in-Some.ensures c.args.c.n_edges _ _ c.if-configuration-m.false c.shifted_row-shifted.ensures in
    ((accepted _).1 walks.walks.accepted, walks.truncation, rw row (shifted_length c.args.configuration.now c.args.edge c.args.delta ∙ c.if-configuration-m.false))

pub returns-in-Some-why_unlisted-clause-answered : goal.returns-in-Some-why_unlisted-clause-answered
unfolding shift_call
returns-in-Some-why_unlisted-clause-answered c =
    let long = c.if-configuration-m.false ∙ sym (edges_long c.args.c) in
    let inside = shift_inside c.args.c c.args.edge c.if-m-edge.false in
    let room = shift_room c.args.c c.args.lambda _ c.in_ok-basis.ensures.basis (length c.args.states.now) (length c.args.res.now) _ c.is_too_short.ensures c.if-is_too_short-res.false in
    let x : FitsSigned w32 (get_or c.args.configuration.now c.args.edge (pos 0)) = search rules in
    let fits : FitsSigned w32 c.in-Some.value = search rules in
    let row = shift_row c.args.lambda c.args.configuration.now c.args.edge c.args.delta x c.ranges.delta c.in-Some.value fits c.in-Some.ensures c.args.c.n_edges _ _ c.if-configuration-m.false c.shifted_row-shifted.ensures in
    let why = rw row at (sym c.why_unlisted.ensures ∙ c.in-Some-why_unlisted.is) in
    refuses _ (basis_passed c.in_ok-basis.ensures (past (rw (eq-eqb _ _ long)) (past inside (past room (past (shift_band c.args.lambda c.args.configuration.now c.args.edge c.args.delta x c.ranges.delta c.in-Some.value fits c.in-Some.ensures) (here (rw (← none_in_basis (complex_of c.args.c) c.args.lambda (shifted c.args.configuration.now c.args.edge c.args.delta), why) refl))))))) refl

pub returns-in-Some-why_unlisted-clause-finding : goal.returns-in-Some-why_unlisted-clause-finding
returns-in-Some-why_unlisted-clause-finding c =
    let accepted = c.in_ok-basis.ensures.basis.walks.walks.accepted in
    let long = c.if-configuration-m.false ∙ sym (edges_long c.args.c) in
    let x : FitsSigned w32 (get_or c.args.configuration.now c.args.edge (pos 0)) = search rules in
    let fits : FitsSigned w32 c.in-Some.value = search rules in
    let row = shift_row c.args.lambda c.args.configuration.now c.args.edge c.args.delta x c.ranges.delta c.in-Some.value fits c.in-Some.ensures c.args.c.n_edges _ _ c.if-configuration-m.false c.shifted_row-shifted.ensures in
    let why = rw row at (sym c.why_unlisted.ensures ∙ c.in-Some-why_unlisted.is) in
    let band = shift_band c.args.lambda c.args.configuration.now c.args.edge c.args.delta x c.ranges.delta c.in-Some.value fits c.in-Some.ensures in
    λ f is. shift_unlisted _ accepted _ _ _ _ long (omega arith) band f (why ∙ cc)

pub list_and_seek-requires : goal.list_and_seek-requires
list_and_seek-requires c =
    let basis = c.in_ok-basis.ensures.basis in
    let x : FitsSigned w32 (get_or c.args.configuration.now c.args.edge (pos 0)) = search rules in
    let fits : FitsSigned w32 c.in-Some.value = search rules in
    let row = shift_row c.args.lambda c.args.configuration.now c.args.edge c.args.delta x c.ranges.delta c.in-Some.value fits c.in-Some.ensures c.args.c.n_edges _ _ c.if-configuration-m.false c.shifted_row-shifted.ensures in
    let room = shift_room c.args.c c.args.lambda _ c.in_ok-basis.ensures.basis (length c.args.states.now) (length c.args.res.now) _ c.is_too_short.ensures c.if-is_too_short-res.false in
    rw (basis.truncated, row) (record {
      complex = complex_of c.args.c;
      basis = basis.walks;
      sized = shifted_length c.args.configuration.now c.args.edge c.args.delta ∙ (c.if-configuration-m.false ∙ sym (edges_long c.args.c));
      listed = rw row at (sym (none_in_basis _ _ _) ∙ ap is_none (sym c.why_unlisted.ensures ∙ c.in_default-why_unlisted.is));
      long = (or_fell _ _ room).0;
    })

pub returns-clause-answered : goal.returns-clause-answered
unfolding shift_call
returns-clause-answered c =
    let basis = c.in_ok-basis.ensures.basis in
    let long = c.if-configuration-m.false ∙ sym (edges_long c.args.c) in
    let inside = shift_inside c.args.c c.args.edge c.if-m-edge.false in
    let room = shift_room c.args.c c.args.lambda _ c.in_ok-basis.ensures.basis (length c.args.states.now) (length c.args.res.now) _ c.is_too_short.ensures c.if-is_too_short-res.false in
    let x : FitsSigned w32 (get_or c.args.configuration.now c.args.edge (pos 0)) = search rules in
    let fits : FitsSigned w32 c.in-Some.value = search rules in
    let row = shift_row c.args.lambda c.args.configuration.now c.args.edge c.args.delta x c.ranges.delta c.in-Some.value fits c.in-Some.ensures c.args.c.n_edges _ _ c.if-configuration-m.false c.shifted_row-shifted.ensures in
    let listed = rw row at (sym (none_in_basis _ _ _) ∙ ap is_none (sym c.why_unlisted.ensures ∙ c.in_default-why_unlisted.is)) in
    let found = rw row at (c.list_and_seek.ensures _ _ basis) in
    let sized = shifted_length c.args.configuration.now c.args.edge c.args.delta ∙ long in
    ends _ (basis_passed c.in_ok-basis.ensures (past (rw (eq-eqb _ _ long)) (past inside (past room (past (shift_band c.args.lambda c.args.configuration.now c.args.edge c.args.delta x c.ranges.delta c.in-Some.value fits c.in-Some.ensures) (past (rw listed) none))))))
    (found.found (sized, listed))
    (both found.list (begins_shifted c.args.configuration.now c.args.edge c.args.delta c.args.c.n_edges _ c.args.res.now c.if-configuration-m.false (c.copy_from_slice.ensures.after ∙ row)))
    (record { found = in_basis_at _ basis.walks.walks.accepted _ _ sized listed; few = basis.walks.few })
