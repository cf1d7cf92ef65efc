use Rattle.std.proofs.Common.{rules, refl}
use borrow.Author.Tests.{ne_eqb}
use Rattle.mathematics.proofs.Calls.{refuses, ends, both}
use Rattle.answers.proofs.Numbers.{number_positive}
use Rattle.answers.proofs.Passing.{answer_passed}
use Rattle.enumeration.proofs.Bases.{basis_refused}
use Rattle.plaquettes.proofs.Listed.{listed_counted}
use Rattle.hamiltonian.specs.Dense.{u1_dense_call}
use Rattle.hamiltonian.proofs.Entering.{weights_refused, weighed, counted, sizes, no_room, enough, told}
use Rattle.hamiltonian.proofs.dense.build_hamiltonian.Goals as goal

pub returns-in_err-basis : goal.returns-in_err-basis
unfolding u1_dense_call
returns-in_err-basis c = rw (answer_passed _ _ c.from_residual.ensures.1) (refuses _ (basis_refused c.in_err-basis.ensures _) (ne_eqb _ 0 (number_positive _)))

pub returns-in_err-accept_weights : goal.returns-in_err-accept_weights
unfolding u1_dense_call
returns-in_err-accept_weights c =
    rw (answer_passed _ _ c.from_residual-in_err-accept_weights.ensures.1)
    (refuses _ (weights_refused _ _ _ _ _ _ c.in_ok-basis.ensures _ c.is_u1.ensures _ _ _ c.in_err-accept_weights.ensures) (ne_eqb _ 0 (number_positive _)))

pub overflow_mul-n : goal.overflow_mul-n
overflow_mul-n c = let h = (sizes _ _ _ _ _ _ c.in_ok-basis.ensures _ c.is_u1.ensures 0 0 c.in_ok-accept_weights.ensures _ c.count-n.ensures).0 in search rules

pub overflow_mul-n-2 : goal.overflow_mul-n-2
overflow_mul-n-2 c = let h = (sizes _ _ _ _ _ _ c.in_ok-basis.ensures _ c.is_u1.ensures 0 0 c.in_ok-accept_weights.ensures _ c.count-n.ensures).1 in search rules

pub returns-then-states-n : goal.returns-then-states-n
unfolding u1_dense_call
returns-then-states-n c = refuses _ (no_room _ _ _ _ _ _ c.in_ok-basis.ensures _ c.is_u1.ensures _ _ c.in_ok-accept_weights.ensures _ c.count-n.ensures c.if-states-n.true) refl

pub list_states-s-requires : goal.list_states-s-requires
list_states-s-requires c = rw (← c.count-n.ensures) (enough _ _ _ _ _ _ c.in_ok-basis.ensures _ c.is_u1.ensures _ _ c.in_ok-accept_weights.ensures _ c.count-n.ensures c.if-states-n.false).0

pub write_dense-requires : goal.write_dense-requires
write_dense-requires c =
    let many = counted _ _ _ _ _ _ c.in_ok-basis.ensures _ c.is_u1.ensures 0 0 c.in_ok-accept_weights.ensures _ c.count-n.ensures in
    let listed = c.list_states-s.ensures _ _ c.in_ok-basis.ensures.basis in (
      _,
      listed.basis,
      weighed _ _ _ _ _ _ c.in_ok-basis.ensures _ c.is_u1.ensures 0 0 c.in_ok-accept_weights.ensures _ c.count-n.ensures,
      rw (listed_counted listed many) (enough _ _ _ _ _ _ c.in_ok-basis.ensures _ c.is_u1.ensures _ _ c.in_ok-accept_weights.ensures _ c.count-n.ensures c.if-states-n.false).1,
    )

pub returns : goal.returns
unfolding u1_dense_call
returns c =
    let many = counted _ _ _ _ _ _ c.in_ok-basis.ensures _ c.is_u1.ensures 0 0 c.in_ok-accept_weights.ensures _ c.count-n.ensures in
    let listed = c.list_states-s.ensures _ _ c.in_ok-basis.ensures.basis in
    ends _ (told _ _ _ _ _ _ c.in_ok-basis.ensures _ c.is_u1.ensures _ _ c.in_ok-accept_weights.ensures _ c.count-n.ensures c.if-states-n.false) many
    (both listed.list (rw listed.truncated at c.write_dense.ensures)) c.in_ok-basis.ensures.basis.walks.few
