use Rattle.std.proofs.Common.{◌≡◌, Result, IsErrAnd, refl, sym, ◌∙◌}
use Prim.{tt}
use borrow.Author.Tests.{le-leb, lt-leb, ne_eqb}
use Rattle.mathematics.proofs.Calls.{none, here, past, refuses, ends}
use Rattle.std.proofs.lemmas.Result.{err_from_is_err_and}
use Rattle.mathematics.specs.Refusals.{refused}
use Rattle.answers.specs.Refusal.{refusal_number}
use Rattle.answers.specs.declared.refusal.Refusal.{Refusal}
use Rattle.triangles.specs.declared.Sides.{Sides}
use Rattle.answers.proofs.Numbers.{number_positive}
use Rattle.complex.proofs.Refusing.{record_refuses, past_record}
use Rattle.triangles.specs.Indices.{indices_answer, indices_call}
use Rattle.triangles.proofs.SidesFound.{number_test, small_triangle, sided, sides_read}
use Rattle.triangles.proofs.tri_edge_indices.Goals as goal

-- what a `?` passes on
indices_passed : (r : Result Sides Refusal) (e : Refusal) → IsErrAnd r (λ y. y ≡ e) → indices_answer r ≡ refused (refusal_number e)
indices_passed r e h = let p = err_from_is_err_and r h in rw (p.1, p.2)

pub returns-in_err-accept_indexed : goal.returns-in_err-accept_indexed
unfolding indices_call
returns-in_err-accept_indexed c =
    rw (indices_passed _ _ c.from_residual.ensures.1)
    (refuses _ (record_refuses _ c.in_err-accept_indexed.ensures.number (number_positive _) _) (ne_eqb _ 0 (number_positive _)))

pub returns-then-c-triangle : goal.returns-then-c-triangle
unfolding indices_call
returns-then-c-triangle c = let j = c.in_ok-accept_indexed.ensures in refuses _ (past_record _ (sym j.number) (here (number_test _ _ ∙ le-leb _ _ c.if-c-triangle.true))) refl

pub sides_of-requires : goal.sides_of-requires
sides_of-requires c =
    let j = c.in_ok-accept_indexed.ensures in
    (small_triangle _ _ (sym j.number) _ (j.index refl) c.if-c-triangle.false, sided _ _ (sym j.number) _ (j.index refl) c.if-c-triangle.false)

pub returns : goal.returns
unfolding indices_call
returns c =
    let j = c.in_ok-accept_indexed.ensures in
    ends _ (past_record _ (sym j.number) (past (number_test _ _ ∙ lt-leb _ _ c.if-c-triangle.false) none)) (rw c.sides_of.ensures (sym (sides_read _ _ (sym j.number) _ (j.index refl) c.if-c-triangle.false))) refl tt
