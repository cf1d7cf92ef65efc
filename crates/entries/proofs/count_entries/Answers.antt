use Rattle.std.proofs.Common.{refl, sym, ◌∙◌}
use borrow.Author.Tests.{ne_eqb}
use Rattle.mathematics.proofs.Calls.{none, refuses, ends}
use Rattle.answers.proofs.Numbers.{number_positive}
use Rattle.answers.proofs.Passing.{answer_passed}
use Rattle.complex.proofs.Accepting.{accepted}
use Rattle.triangles.proofs.SidesFound.{triangles_long}
use Rattle.enumeration.proofs.Bases.{basis_refused, basis_passed}
use Rattle.entries.specs.Entries.{entries_call}
use Rattle.entries.proofs.Counting.{all_countable, counted_entries}
use Rattle.entries.proofs.EntryNumbers.{entries_known}
use Rattle.entries.proofs.count_entries.Goals as goal

pub returns-in_err-basis : goal.returns-in_err-basis
unfolding entries_call
returns-in_err-basis c = rw (answer_passed _ _ c.from_residual.ensures.1) (refuses _ (basis_refused c.in_err-basis.ensures _) (ne_eqb _ 0 (number_positive _)))

pub all_sides-all-requires : goal.all_sides-all-requires
all_sides-all-requires c = (accepted _).1 c.in_ok-basis.ensures.basis.walks.walks.accepted

pub count_rows-requires : goal.count_rows-requires
count_rows-requires c =
    let h = c.in_ok-basis.ensures.basis in
    let of = h.walks in
    rw h.truncated (all_countable _ of.walks.accepted _ of.truncation _ c.all_sides-all.ensures _ of.listed _ (sym (triangles_long c.args.c)) of.few)

pub returns : goal.returns
unfolding entries_call
returns c =
    let h = c.in_ok-basis.ensures.basis in
    let of = h.walks in
    let right = of.walks.accepted in
    ends (entries_call _ _) (basis_passed c.in_ok-basis.ensures none)
    (rw h.truncated at c.count_rows.ensures ∙ counted_entries _ right _ of.truncation _ c.all_sides-all.ensures _ of.listed _ (sym (triangles_long c.args.c)))
    refl
    (entries_known _ right _ of.truncation of.few)
