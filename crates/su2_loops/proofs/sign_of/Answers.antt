use mathlib.Core.Logic.{⊎_elim}
use mathlib.Core.Path.{refl}
use mir.Facts.{sfits_lit}
use Rattle.su2_loops.specs.Parity.{parity_sign}
use Rattle.su2_loops.proofs.Parity.{remainder_is, sign_told}
use Rattle.su2_loops.proofs.sign_of.Goals as goal

-- the remainder is 0 or 1; either way the product and the difference are known numbers, and fit
pub overflow_mul-result : goal.overflow_mul-result
overflow_mul-result c = ⊎_elim (λ h. rw h (sfits_lit tt)) (λ h. rw h (sfits_lit tt)) (remainder_is c.args.count)

pub overflow_sub-result : goal.overflow_sub-result
overflow_sub-result c = ⊎_elim (λ h. rw h (sfits_lit tt)) (λ h. rw h (sfits_lit tt)) (remainder_is c.args.count)

pub returns : goal.returns
unfolding parity_sign
returns c =
    let told = sign_told c.args.count _ (⊎_elim (λ h. rw h refl) (λ h. rw h refl) (remainder_is c.args.count)) in
    record { value = told.0; exactly_where_odd = told.1 }
