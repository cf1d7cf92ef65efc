-- Weights that are not given are not read.
use Rattle.std.specs.Prelude.{ℕ, Bool, List, Option, Float, ℤ, ◌≡◌, refl}
use Rattle.std.specs.Borrow.{Bor}
use Rattle.std.specs.Bool.{then_some}
use Rattle.mathematics.specs.Refusals.{Outcome}
use Rattle.mathematics.specs.Calls.{Answered}
use Rattle.complex.specs.Complex.{Complex}
use Rattle.matrices.specs.declared.coupling.KSParams.{KSParams}
use Rattle.matrices.specs.Weights.{weight, weights_tests, vector_tests, is_given, given_list}
use Rattle.hamiltonian.specs.Dense.{u1_dense_call}
use Rattle.csr.specs.Csr.{csr_call}
use Rattle.lanczos.specs.Matvec.{u1_product_call}
use Rattle.exports.proofs.Given.{chosen}

module _ (c : Complex) (L : ℕ) (p : KSParams) (given : Bool) (w : Bor (List Float)) {own : Option (Bor (List Float))} (e : own ≡ then_some given w) {o : Outcome ℕ} where
  pub dense_chosen : (a : List ℤ) (b : List Float) {l : List ℤ × List Float} → Answered (u1_dense_call c L p (is_given own) (given_list own) a b) o l → Answered (u1_dense_call c L p given w.now a b) o l
  unfolding u1_dense_call weights_tests weight
  dense_chosen a b = chosen (λ g v. u1_dense_call c L p g v a b) (λ v. refl) given w e

  pub csr_chosen : (a : List ℤ) (d k : List ℕ) (b : List Float) {l : List ℤ × List ℕ × List ℕ × List Float} → Answered (csr_call c L p (is_given own) (given_list own) a d k b) o l → Answered (csr_call c L p given w.now a d k b) o l
  unfolding csr_call weights_tests weight
  csr_chosen a d k b = chosen (λ g v. csr_call c L p g v a d k b) (λ v. refl) given w e

  pub product_chosen : (x : List Float) (a : List ℤ) (b : List Float) {l : List ℤ × List Float} → Answered (u1_product_call c L p (is_given own) (given_list own) x a b) o l → Answered (u1_product_call c L p given w.now x a b) o l
  unfolding u1_product_call vector_tests weight
  product_chosen x a b = chosen (λ g v. u1_product_call c L p g v x a b) (λ v. refl) given w e
