use Rattle.std.proofs.Common.{rules, refl, arith, length-take}
use borrow.Author.Tests.{ne_eqb}
use Rattle.mathematics.proofs.Calls.{refuses, ends, both}
use Rattle.answers.proofs.Numbers.{number_positive}
use Rattle.answers.proofs.Passing.{answer_passed}
use Rattle.enumeration.proofs.Bases.{basis_refused}
use Rattle.plaquettes.proofs.Listed.{basis_counted, listed_counted}
use Rattle.lanczos.specs.Matvec.{u1_product_call}
use Rattle.lanczos.proofs.Running.{walk_cycle}
use Rattle.lanczos.proofs.Entering.{vector_refused, weighed, vector_long, size, no_room, enough, told}
use Rattle.lanczos.proofs.matvec.hamiltonian_matvec.Goals as goal

pub returns-in_err-basis : goal.returns-in_err-basis
unfolding u1_product_call
returns-in_err-basis c = rw (answer_passed _ _ c.from_residual.ensures.1) (refuses _ (basis_refused c.in_err-basis.ensures _) (ne_eqb _ 0 (number_positive _)))

pub returns-in_err-accept_vector : goal.returns-in_err-accept_vector
unfolding u1_product_call
returns-in_err-accept_vector c =
    rw (answer_passed _ _ c.from_residual-in_err-accept_vector.ensures.1)
    (refuses _ (vector_refused _ _ _ _ _ _ _ c.in_ok-basis.ensures _ c.count-n.ensures _ c.is_u1.ensures _ _ _ c.in_err-accept_vector.ensures) (ne_eqb _ 0 (number_positive _)))

pub overflow_mul-n : goal.overflow_mul-n
overflow_mul-n c = let h = size _ _ _ _ _ _ _ c.in_ok-basis.ensures _ c.count-n.ensures _ c.is_u1.ensures 0 0 c.in_ok-accept_vector.ensures in search rules

pub returns-then-states-n : goal.returns-then-states-n
unfolding u1_product_call
returns-then-states-n c = refuses _ (no_room _ _ _ _ _ _ _ c.in_ok-basis.ensures _ c.count-n.ensures _ c.is_u1.ensures _ _ c.in_ok-accept_vector.ensures c.if-states-n.true) refl

pub list_states-s-requires : goal.list_states-s-requires
list_states-s-requires c = rw (← c.count-n.ensures) (enough _ _ _ _ _ _ _ c.in_ok-basis.ensures _ c.count-n.ensures _ c.is_u1.ensures _ _ c.in_ok-accept_vector.ensures c.if-states-n.false).0

pub slice_bounds-cycle-end : goal.slice_bounds-cycle-end
slice_bounds-cycle-end c = let of = c.in_ok-basis.ensures.basis.walks in simp length-take (omega (arith, of.walks.table.long, of.fit.edges))

pub write_product-requires : goal.write_product-requires
write_product-requires c =
    let many = basis_counted c.in_ok-basis.ensures.basis c.count-n.ensures in
    let listed = c.list_states-s.ensures _ _ c.in_ok-basis.ensures.basis in (
      _,
      listed.basis,
      weighed _ _ _ _ _ _ _ c.in_ok-basis.ensures _ c.count-n.ensures _ c.is_u1.ensures 0 0 c.in_ok-accept_vector.ensures,
      omega (arith, listed_counted listed many, vector_long _ _ _ _ _ _ _ c.in_ok-basis.ensures _ c.count-n.ensures _ c.is_u1.ensures 0 0 c.in_ok-accept_vector.ensures),
      omega (arith, listed_counted listed many, (enough _ _ _ _ _ _ _ c.in_ok-basis.ensures _ c.count-n.ensures _ c.is_u1.ensures _ _ c.in_ok-accept_vector.ensures c.if-states-n.false).1),
      walk_cycle _ _ _ _ c.in_ok-basis.ensures.basis.walks,
    )

pub returns : goal.returns
unfolding u1_product_call
returns c =
    let many = basis_counted c.in_ok-basis.ensures.basis c.count-n.ensures in
    let listed = c.list_states-s.ensures _ _ c.in_ok-basis.ensures.basis in
    ends _ (told _ _ _ _ _ _ _ c.in_ok-basis.ensures _ c.count-n.ensures _ c.is_u1.ensures _ _ c.in_ok-accept_vector.ensures c.if-states-n.false) many
    (both listed.list (rw listed.truncated at c.write_product.ensures)) c.in_ok-basis.ensures.basis.walks.few
