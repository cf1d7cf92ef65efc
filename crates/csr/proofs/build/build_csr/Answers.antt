use Rattle.std.proofs.Common.{rules, refl, sym, ◌∙◌, arith}
use borrow.Author.Tests.{ne_eqb}
use Rattle.mathematics.proofs.Calls.{refuses, ends}
use Rattle.answers.proofs.Numbers.{number_positive}
use Rattle.answers.proofs.Passing.{answer_passed}
use Rattle.complex.proofs.Accepting.{accepted}
use Rattle.enumeration.proofs.Bases.{basis_refused}
use Rattle.enumeration.proofs.Demanded.{none_answerable}
use Rattle.rows.proofs.SortedRows.{lists_are}
use Rattle.plaquettes.proofs.Listed.{listed_counted}
use Rattle.entries.proofs.Once.{no_column_twice}
use Rattle.csr.specs.Csr.{csr_call}
use Rattle.csr.proofs.Entering.{weights_refused, weighed, counted, sizes, countable, entries_told, no_room, enough, told}
use Rattle.csr.proofs.build.build_csr.Goals as goal

pub returns-in_err-basis : goal.returns-in_err-basis
unfolding csr_call
returns-in_err-basis c = rw (answer_passed _ _ c.from_residual.ensures.1) (refuses _ (basis_refused c.in_err-basis.ensures _) (ne_eqb _ 0 (number_positive _)))

pub returns-in_err-accept_weights : goal.returns-in_err-accept_weights
unfolding csr_call
returns-in_err-accept_weights c =
    rw (answer_passed _ _ c.from_residual-in_err-accept_weights.ensures.1)
    (refuses _ (weights_refused _ _ _ _ _ _ c.in_ok-basis.ensures _ c.is_u1.ensures _ _ _ _ _ c.in_err-accept_weights.ensures) (ne_eqb _ 0 (number_positive _)))

pub all_sides-all-requires : goal.all_sides-all-requires
all_sides-all-requires c = (accepted _).1 c.in_ok-basis.ensures.basis.walks.walks.accepted

pub count_rows-entries-requires : goal.count_rows-entries-requires
count_rows-entries-requires c = countable _ _ _ _ _ _ c.in_ok-basis.ensures _ c.is_u1.ensures 0 0 0 0 c.in_ok-accept_weights.ensures _ c.count-n.ensures _ c.all_sides-all.ensures

pub overflow_mul-n : goal.overflow_mul-n
overflow_mul-n c = let h = (sizes _ _ _ _ _ _ c.in_ok-basis.ensures _ c.is_u1.ensures 0 0 0 0 c.in_ok-accept_weights.ensures _ c.count-n.ensures).0 in search rules

pub overflow_add-n : goal.overflow_add-n
overflow_add-n c = let h = (sizes _ _ _ _ _ _ c.in_ok-basis.ensures _ c.is_u1.ensures 0 0 0 0 c.in_ok-accept_weights.ensures _ c.count-n.ensures).1 in search rules

pub returns-then-states-n : goal.returns-then-states-n
unfolding csr_call
returns-then-states-n c = refuses _ (no_room _ _ _ _ _ _ c.in_ok-basis.ensures _ c.is_u1.ensures _ _ _ _ c.in_ok-accept_weights.ensures _ c.count-n.ensures _ c.all_sides-all.ensures _ c.count_rows-entries.ensures c.if-states-n.true) refl

pub list_states-s-requires : goal.list_states-s-requires
list_states-s-requires c = rw (← c.count-n.ensures) (enough _ _ _ _ _ _ c.in_ok-basis.ensures _ c.is_u1.ensures _ _ _ _ c.in_ok-accept_weights.ensures _ c.count-n.ensures _ c.all_sides-all.ensures _ c.count_rows-entries.ensures c.if-states-n.false).0

pub write_lists-requires : goal.write_lists-requires
write_lists-requires c =
    let many = counted _ _ _ _ _ _ c.in_ok-basis.ensures _ c.is_u1.ensures 0 0 0 0 c.in_ok-accept_weights.ensures _ c.count-n.ensures in
    let listed = c.list_states-s.ensures _ _ c.in_ok-basis.ensures.basis in
    let can = none_answerable _ _ (sym c.in_ok-basis.ensures.refusal) in
    let space = enough _ _ _ _ _ _ c.in_ok-basis.ensures _ c.is_u1.ensures _ _ _ _ c.in_ok-accept_weights.ensures _ c.count-n.ensures _ c.all_sides-all.ensures _ c.count_rows-entries.ensures c.if-states-n.false in
    let entries = entries_told _ _ _ _ _ _ c.in_ok-basis.ensures _ c.is_u1.ensures 0 0 0 0 c.in_ok-accept_weights.ensures _ c.count-n.ensures _ c.all_sides-all.ensures _ c.count_rows-entries.ensures in (
      listed.basis,
      c.all_sides-all.ensures,
      rw (listed.truncated, listed.basis.free_count) can.candidates,
      weighed _ _ _ _ _ _ c.in_ok-basis.ensures _ c.is_u1.ensures 0 0 0 0 c.in_ok-accept_weights.ensures _ c.count-n.ensures,
      omega (arith, listed_counted listed many, space.1),
      rw (listed.truncated, ← entries) space.2,
      rw (listed.truncated, ← entries) space.3,
    )

pub returns : goal.returns
unfolding csr_call
returns c =
    let many = counted _ _ _ _ _ _ c.in_ok-basis.ensures _ c.is_u1.ensures 0 0 0 0 c.in_ok-accept_weights.ensures _ c.count-n.ensures in
    let listed = c.list_states-s.ensures _ _ c.in_ok-basis.ensures.basis in
    let of = c.in_ok-basis.ensures.basis.walks in
    ends _ (told _ _ _ _ _ _ c.in_ok-basis.ensures _ c.is_u1.ensures _ _ _ _ c.in_ok-accept_weights.ensures _ c.count-n.ensures _ c.all_sides-all.ensures _ c.count_rows-entries.ensures c.if-states-n.false)
    (entries_told _ _ _ _ _ _ c.in_ok-basis.ensures _ c.is_u1.ensures 0 0 0 0 c.in_ok-accept_weights.ensures _ c.count-n.ensures _ c.all_sides-all.ensures _ c.count_rows-entries.ensures)
    (lists_are listed.list (listed_counted listed many ∙ many) (rw listed.truncated at c.write_lists.ensures))
    (record { few = of.few; once = no_column_twice _ of.walks.accepted _ })
