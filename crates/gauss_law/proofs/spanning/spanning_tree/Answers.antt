use Rattle.std.proofs.Common.{refl, sym, ◌∙◌}
use borrow.Author.Tests.{ne_eqb}
use Rattle.mathematics.proofs.Calls.{none, here, past, refuses, ends, both}
use Rattle.answers.proofs.Numbers.{number_positive}
use Rattle.answers.proofs.Passing.{answer_passed}
use Rattle.complex.proofs.Refusing.{record_refuses, past_record}
use Rattle.gauss_law.specs.Spanning.{tree_call}
use Rattle.gauss_law.proofs.Spanned.{accepted_searchable, searched_spanned}
use Rattle.gauss_law.proofs.TreeTold.{room_told, tree_written, free_written}
use Rattle.gauss_law.proofs.spanning.spanning_tree.Goals as goal

pub returns-in_err-accept : goal.returns-in_err-accept
unfolding tree_call
returns-in_err-accept c =
    rw (answer_passed _ _ c.from_residual.ensures.1)
    (refuses _ (record_refuses _ c.in_err-accept.ensures (number_positive _) _) (ne_eqb _ 0 (number_positive _)))

pub search-spanning-requires : goal.search-spanning-requires
search-spanning-requires c = accepted_searchable _ (sym c.in_ok-accept.ensures)

pub free_edges-rest-requires : goal.free_edges-rest-requires
free_edges-rest-requires c = searched_spanned _ _ (sym c.in_ok-accept.ensures) c.search-spanning.ensures

pub returns-then-tree-spanning : goal.returns-then-tree-spanning
unfolding tree_call
returns-then-tree-spanning c =
    let s = searched_spanned _ _ (sym c.in_ok-accept.ensures) c.search-spanning.ensures in
    refuses _ (past_record _ (sym c.in_ok-accept.ensures) (here (room_told _ _ s _ c.free_edges-rest.ensures _ _ ∙ rw c.len.ensures at c.if-tree-spanning.true))) refl

pub returns : goal.returns
unfolding tree_call
returns c =
    let s = searched_spanned _ _ (sym c.in_ok-accept.ensures) c.search-spanning.ensures in
    let f = c.free_edges-rest.ensures in
    ends _ (past_record _ (sym c.in_ok-accept.ensures) (past (room_told _ _ s _ f _ _ ∙ rw c.len.ensures at c.if-tree-spanning.false) none)) (c.len-2.ensures ∙ f.count)
    (both (c.copy_first.ensures ∙ tree_written _ _ s _ f _) (c.copy_first-2.ensures ∙ free_written _ _ s _ f _ _ c.as_slice.ensures))
    (rw (← f.count) f.few)
