-- Weights that are not given are not read.
use Rattle.std.specs.Prelude.{ℕ, Bool, List, Option, Float, ◌≡◌, refl}
use Rattle.std.specs.Borrow.{Bor}
use Rattle.std.specs.Bool.{then_some}
use Rattle.mathematics.specs.Refusals.{Outcome}
use Rattle.mathematics.specs.Calls.{Answered}
use Rattle.complex.specs.Complex.{Complex}
use Rattle.exports.proofs.Given.{chosen}
use Rattle.matrices.specs.declared.coupling.KSParams.{KSParams}
use Rattle.matrices.specs.Weights.{weight, weights_tests, vector_tests, is_given, given_list}
use Rattle.su2_quantum.specs.Dense.{su2_dense_call}
use Rattle.su2_rows.specs.Rows.{su2_rows_call}
use Rattle.su2_products.specs.Product.{su2_product_call}

module _ (c : Complex) (p : KSParams) (given : Bool) (w : Bor (List Float)) {o : Option (Bor (List Float))} (e : o ≡ then_some given w) where
  pub dense_chosen : (states : List ℕ) (res : List Float) {a : Outcome ℕ} {l : List ℕ × List Float} → Answered (su2_dense_call c p (is_given o) (given_list o) states res) a l → Answered (su2_dense_call c p given w.now states res) a l
  unfolding su2_dense_call weight weights_tests
  dense_chosen states res = chosen (λ given weights. su2_dense_call c p given weights states res) (λ w. refl) given w e

  pub rows_chosen : (states starts columns : List ℕ) (values : List Float) {a : Outcome ℕ} {l : List ℕ × List ℕ × List ℕ × List Float} → Answered (su2_rows_call c p (is_given o) (given_list o) states starts columns values) a l
      → Answered (su2_rows_call c p given w.now states starts columns values) a l
  unfolding su2_rows_call weight weights_tests
  rows_chosen states starts columns values = chosen (λ given weights. su2_rows_call c p given weights states starts columns values) (λ w. refl) given w e

  pub product_chosen : (vector : List Float) (states : List ℕ) (res : List Float) {a : Outcome ℕ} {l : List ℕ × List Float} → Answered (su2_product_call c p (is_given o) (given_list o) vector states res) a l
      → Answered (su2_product_call c p given w.now vector states res) a l
  unfolding su2_product_call weight vector_tests
  product_chosen vector states res = chosen (λ given weights. su2_product_call c p given weights vector states res) (λ w. refl) given w e
