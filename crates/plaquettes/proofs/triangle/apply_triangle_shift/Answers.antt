use Rattle.std.proofs.Common.{rules, arith, refl, ap, not, length-take}
use Rattle.mathematics.proofs.Calls.{refuses}
use borrow.Author.Tests.{ne_eqb, not-true, not-false}
use Rattle.answers.proofs.Numbers.{number_positive}
use Rattle.answers.proofs.Passing.{answer_passed}
use Rattle.enumeration.proofs.Bases.{basis_refused}
use Rattle.plaquettes.specs.Triangle.{triangle_call}
use Rattle.plaquettes.proofs.Demands.{shift_demanded}
use Rattle.plaquettes.proofs.Shifting.{basis_of, edges_few, product_small, no_number, sides_asked, state_asked, no_room, ready, three_asked, out_of_band, asked, answered}
use Rattle.plaquettes.proofs.triangle.apply_triangle_shift.Goals as goal

pub returns-in_err-basis : goal.returns-in_err-basis
unfolding triangle_call
returns-in_err-basis c =
    let h = shift_demanded c.args.c c.args.lambda c.args.triangle c.args.state c.args.states.now _ _
    (rw (answer_passed _ _ c.from_residual.ensures.1) (refuses _ (basis_refused c.in_err-basis.ensures _) (ne_eqb _ 0 (number_positive _)))) in
    record { answered = h.0; shift_demand = h.1 }

pub returns-then-c-triangle : goal.returns-then-c-triangle
unfolding triangle_call
returns-then-c-triangle c =
    let h = shift_demanded _ _ _ _ _ _ _ (refuses _ (no_number _ _ _ _ _ c.in_ok-basis.ensures _ c.count-n.ensures c.if-c-triangle.true _) refl) in
    record { answered = h.0; shift_demand = h.1 }

pub overflow_mul-n : goal.overflow_mul-n
overflow_mul-n c = let h = product_small _ _ c.args.triangle c.args.state _ c.in_ok-basis.ensures _ c.count-n.ensures in search rules

pub returns-then-states-n : goal.returns-then-states-n
unfolding triangle_call
returns-then-states-n c =
    let h = shift_demanded _ _ _ _ _ _ _ (refuses _ (no_room _ _ _ _ _ c.in_ok-basis.ensures _ c.count-n.ensures c.if-c-triangle.false _ c.if-states-n.true) refl) in
    record { answered = h.0; shift_demand = h.1 }

pub triangle_sides-sides-requires : goal.triangle_sides-sides-requires
triangle_sides-sides-requires c = sides_asked _ _ _ _ _ c.in_ok-basis.ensures _ c.count-n.ensures c.if-c-triangle.false

pub state_at-row-requires : goal.state_at-row-requires
state_at-row-requires c = ((basis_of _ _ c.args.triangle c.args.state _ c.in_ok-basis.ensures _ c.count-n.ensures).fit, state_asked _ _ _ _ _ c.in_ok-basis.ensures _ c.count-n.ensures c.if-c-triangle.false)

pub shift_row-requires : goal.shift_row-requires
shift_row-requires c = ready _ _ _ _ _ c.in_ok-basis.ensures _ c.count-n.ensures c.if-c-triangle.false _ c.if-states-n.false _ c.triangle_sides-sides.ensures _ c.state_at-row.ensures.0 c.state_at-row.ensures.1

pub three_within-requires : goal.three_within-requires
three_within-requires c = three_asked _ _ _ _ _ c.in_ok-basis.ensures _ c.count-n.ensures c.if-c-triangle.false _ c.if-states-n.false _ c.triangle_sides-sides.ensures _ c.state_at-row.ensures.0 c.state_at-row.ensures.1 _ c.shift_row.ensures

pub returns-then-not-three_within : goal.returns-then-not-three_within
unfolding triangle_call
returns-then-not-three_within c =
    let told = out_of_band _ _ _ _ _ c.in_ok-basis.ensures _ c.count-n.ensures c.if-c-triangle.false _ c.if-states-n.false _ c.triangle_sides-sides.ensures _ c.state_at-row.ensures.0 c.state_at-row.ensures.1 _ c.shift_row.ensures _ c.three_within.ensures (not-true _ (ap not c.if-not-three_within.true)) in
    let h = shift_demanded _ _ _ _ _ _ _ (refuses _ told refl) in
    record { answered = h.0; shift_demand = h.1 }

pub slice_bounds-row-end : goal.slice_bounds-row-end
slice_bounds-row-end c = omega (arith, edges_few _ _ c.args.triangle c.args.state _ c.in_ok-basis.ensures _ c.count-n.ensures, c.shift_row.array_long)

pub slice_bounds-list_and_seek-end : goal.slice_bounds-list_and_seek-end
slice_bounds-list_and_seek-end c = simp length-take (omega (arith, edges_few _ _ c.args.triangle c.args.state _ c.in_ok-basis.ensures _ c.count-n.ensures, c.shift_row.array_long))

pub list_and_seek-requires : goal.list_and_seek-requires
list_and_seek-requires c =
    rw c.in_ok-basis.ensures.basis.truncated
    (asked _ _ _ _ _ c.in_ok-basis.ensures _ c.count-n.ensures c.if-c-triangle.false _ c.if-states-n.false _ c.triangle_sides-sides.ensures _ c.state_at-row.ensures.0 c.state_at-row.ensures.1 _ c.shift_row.ensures _ c.three_within.ensures (not-false _ (ap not c.if-not-three_within.false)))

pub returns : goal.returns
unfolding triangle_call
returns c =
    let told = answered _ _ _ _ _ c.in_ok-basis.ensures _ c.count-n.ensures c.if-c-triangle.false _ c.if-states-n.false _ c.triangle_sides-sides.ensures _ c.state_at-row.ensures.0 c.state_at-row.ensures.1 _ c.shift_row.ensures _ c.three_within.ensures (not-false _ (ap not c.if-not-three_within.false)) _ refl _ _ (c.list_and_seek.ensures _ _ c.in_ok-basis.ensures.basis) in
    let h = shift_demanded _ _ _ _ _ _ _ told in
    record { answered = h.0; shift_demand = h.1 }
