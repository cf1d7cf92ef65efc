use Rattle.std.proofs.Common.{◌≡◌, length, sym, ◌∙◌, refl}
use Rattle.mathematics.specs.Refusals.{first}
use Rattle.complex.specs.Complex.{complex_of}
use Rattle.matrices.specs.Weights.{vector_tests, is_given, given_list}
use Rattle.su2_even_sets.specs.EvenSets.{su2_states}
use Rattle.mathematics.proofs.Calls.{none, here, past, refuses, ends, both}
use Rattle.answers.proofs.Numbers.{number_positive}
use Rattle.answers.proofs.Passing.{call_passed}
use Rattle.triangles.proofs.SidesFound.{triangles_long}
use Rattle.matrices.specs.Coupling.{su2_right}
use Rattle.matrices.proofs.Vectors.{vector_refuses, past_vector, weights_fit, vector_fits}
use Rattle.su2_masks.proofs.Placing.{masks_are}
use Rattle.su2_masks.proofs.LoopsTold.{loops_refuse, past_loops, masks_known, states_counted, masks_front}
use Rattle.su2_products.specs.Product.{su2_product_call}
use Rattle.su2_products.proofs.Telling.{long_enough}
use Rattle.su2_products.proofs.su2_hamiltonian_matvec.Goals as goal

pub returns-in_err-f : goal.returns-in_err-f
unfolding su2_product_call
returns-in_err-f c = call_passed _ _ c.from_residual.ensures.1 (su2_product_call _ _ _ _ _ _ _) (loops_refuse _ _ c.in_err-f.ensures.number)

pub returns-in_err-accept_vector : goal.returns-in_err-accept_vector
unfolding su2_product_call
returns-in_err-accept_vector c =
    call_passed _ _ c.from_residual-in_err-accept_vector.ensures.1 (su2_product_call _ _ _ _ _ _ _)
    (past_loops _ c.in_ok-f.ensures.number
    (vector_refuses _ _ _ _ _ _ (rw (triangles_long c.args.c, ← (states_counted _ _ c.in_ok-f.ensures.loops), ← c.is_su2.ensures) c.in_err-accept_vector.ensures) (number_positive _) _))

pub returns-then-states-n : goal.returns-then-states-n
unfolding su2_product_call
returns-then-states-n c =
    let of = c.in_ok-f.ensures.loops in
    let right = sym (rw (triangles_long c.args.c, ← (states_counted _ _ of), ← c.is_su2.ensures) c.in_ok-accept_vector.ensures) in
    refuses (su2_product_call _ _ _ _ _ _ _) (past_loops _ c.in_ok-f.ensures.number (past_vector _ _ _ _ _ _ right (here (rw (states_counted _ _ of) at c.if-states-n.true)))) refl

pub write_product-requires : goal.write_product-requires
write_product-requires c =
    let of = c.in_ok-f.ensures.loops in
    let right : first (vector_tests (length (su2_states (complex_of c.args.c))) c.args.vector.now (length (complex_of c.args.c).triangles) (su2_right c.args.p) (is_given c.args.weights) (given_list c.args.weights)) ≡ 0 = sym (rw (triangles_long c.args.c, ← (states_counted _ _ of), ← c.is_su2.ensures) c.in_ok-accept_vector.ensures) in
    let room = long_enough _ _ _ c.if-states-n.false in (
      record { loops = of; states = states_counted _ _ of; amplitudes = vector_fits _ _ _ _ _ _ right ∙ sym (states_counted _ _ of); long = room.1 },
      weights_fit _ _ _ _ _ _ right,
      (_, rw (c.loops.ensures, masks_are _ _ of.of) at c.write_masks.ensures),
    )

pub returns : goal.returns
unfolding su2_product_call
returns c =
    let of = c.in_ok-f.ensures.loops in
    let right = sym (rw (triangles_long c.args.c, ← (states_counted _ _ of), ← c.is_su2.ensures) c.in_ok-accept_vector.ensures) in
    ends (su2_product_call _ _ _ _ _ _ _) (past_loops _ c.in_ok-f.ensures.number (past_vector _ _ _ _ _ _ right (past (rw (states_counted _ _ of) at c.if-states-n.false) none)))
    (states_counted _ _ of)
    (both (masks_front _ _ of _ _ (rw c.loops.ensures at c.write_masks.ensures)) c.write_product.ensures)
    (masks_known _ _ of).few
