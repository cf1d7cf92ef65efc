-- What the calls answer is small.
use Rattle.std.proofs.Common.{ℕ, ◌<◌, ◌^◌, List, Bool, Float, Result, IfOk, refl}
use Rattle.mathematics.specs.Calls.{Answered, NoneLent, none_lent}
use Rattle.mathematics.specs.Refusals.{value}
use Rattle.answers.specs.declared.refusal.Refusal.{Refusal}
use Rattle.answers.specs.Refusal.{answer_of}
use Rattle.complex.specs.Complex.{Complex, complex_of}
use Rattle.matrices.specs.declared.coupling.KSParams.{KSParams}
use Rattle.exports.proofs.OnSheets.{small_result, few_small, complex_accepted}
use Rattle.sheet.specs.declared.Sheet.{Sheet}
use Rattle.sheet.specs.Sheet.{reading_call}
use Rattle.su2_rows.specs.Rows.{su2_rows_call}
use Rattle.su2_masks.specs.Basis.{su2_basis_call, su2_counted_call}
use Rattle.su2_quantum.specs.Dense.{su2_dense_call}
use Rattle.su2_products.specs.Product.{su2_product_call}
use Rattle.su2_entries.specs.Entries.{su2_entries_call}
use Rattle.su2_exports.proofs.Entries.{number_small, entries_small}

module _ (c : Complex) (r : Result ℕ Refusal) where
  pub basis_small : (states l : List ℕ) → Answered (su2_basis_call c states) (answer_of r) l → IfOk r (λ n. n < 2 ^ 31)
  unfolding su2_basis_call
  basis_small states l h = small_result r h (λ k. few_small k.few refl)

  pub counted_small : (l : NoneLent) → Answered (su2_counted_call c) (answer_of r) l → IfOk r (λ n. n < 2 ^ 31)
  unfolding su2_counted_call
  counted_small l h = small_result r h (λ k. few_small k.few refl)

  pub count_small : (l : NoneLent) → Answered (su2_entries_call c) (answer_of r) l → IfOk r (λ n. n < 2 ^ 31)
  unfolding su2_entries_call
  count_small l h = small_result r h number_small

  module _ (p : KSParams) (given : Bool) (weights : List Float) where
    pub dense_small : (states : List ℕ) (res : List Float) (l : List ℕ × List Float) → Answered (su2_dense_call c p given weights states res) (answer_of r) l → IfOk r (λ n. n < 2 ^ 31)
    unfolding su2_dense_call
    dense_small states res l h = small_result r h (λ k. few_small k refl)

    pub product_small : (vector : List Float) (states : List ℕ) (res : List Float) (l : List ℕ × List Float) → Answered (su2_product_call c p given weights vector states res) (answer_of r) l → IfOk r (λ n. n < 2 ^ 31)
    unfolding su2_product_call
    product_small vector states res l h = small_result r h (λ k. few_small k refl)

pub rows_small : (b : List ℕ) {s : Sheet} → Answered (reading_call b) (value s) none_lent → (p : KSParams) (given : Bool) (weights : List Float) (work starts columns : List ℕ) (values : List Float) (l : List ℕ × List ℕ × List ℕ × List Float) (r : Result ℕ Refusal)
    → Answered (su2_rows_call (complex_of s.complex) p given weights work starts columns values) (answer_of r) l → IfOk r (λ n. n < 2 ^ 31)
unfolding su2_rows_call
rows_small b {s} h p given weights work starts columns values l r a = small_result r a (entries_small s.complex (complex_accepted b h))
