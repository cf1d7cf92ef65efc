use Rattle.std.proofs.Common.{sym, ◌∙◌}
use Rattle.answers.proofs.Numbers.{number_positive}
use Rattle.answers.proofs.Passing.{judged_passed}
use Rattle.matrices.proofs.Vectors.{miscounted_told, weights_told, amplitude_told, all_told}
use Rattle.matrices.proofs.weights.accept_vector.Goals as goal

pub returns-then-miscounted-vector : goal.returns-then-miscounted-vector
returns-then-miscounted-vector c = miscounted_told _ _ _ _ _ _ (rw c.miscounted.ensures at c.if-miscounted-vector.true)

pub returns-in_err-accept_weights : goal.returns-in_err-accept_weights
returns-in_err-accept_weights c =
    rw (judged_passed _ _ c.from_residual.ensures.1, c.in_err-accept_weights.ensures)
    (weights_told _ _ _ _ _ _ (rw c.miscounted.ensures at c.if-miscounted-vector.false) (λ h. number_positive _ (c.in_err-accept_weights.ensures ∙ h)))

pub returns-then-not-all_bounded : goal.returns-then-not-all_bounded
returns-then-not-all_bounded c = amplitude_told _ _ _ _ _ _ (rw c.miscounted.ensures at c.if-miscounted-vector.false) (sym c.in_ok-accept_weights.ensures) (sym c.all_bounded.ensures ∙ c.if-not-all_bounded.true)

pub returns : goal.returns
returns c = all_told _ _ _ _ _ _ (rw c.miscounted.ensures at c.if-miscounted-vector.false) (sym c.in_ok-accept_weights.ensures) (sym c.all_bounded.ensures ∙ c.if-not-all_bounded.false)
