-- What the calls tell is small.
use Rattle.std.proofs.Common.{ℕ, ◌<◌, ◌^◌, Bool, List, ℤ, Result, IfOk, refl}
use lib.Ieee.{Float}
use Rattle.mathematics.specs.Refusals.{value}
use Rattle.mathematics.specs.Calls.{Answered, none_lent}
use Rattle.complex.specs.Complex.{Complex, complex_of}
use Rattle.sheet.specs.declared.Sheet.{Sheet}
use Rattle.sheet.specs.Sheet.{reading_call}
use Rattle.matrices.specs.declared.coupling.KSParams.{KSParams}
use Rattle.plaquettes.specs.Triangle.{triangle_call}
use Rattle.entries.specs.Entries.{entries_call}
use Rattle.hamiltonian.specs.Dense.{u1_dense_call}
use Rattle.lanczos.specs.Matvec.{u1_product_call}
use Rattle.csr.specs.Csr.{csr_call}
use Rattle.answers.specs.Refusal.{answer_of, place_answer}
use Rattle.answers.specs.declared.finding.Unplaced.{Unplaced}
use Rattle.answers.specs.declared.refusal.Refusal.{Refusal}
use Rattle.hilbert.specs.Index.{index_call}
use Rattle.enumeration.specs.Enumeration.{enumerated_call, counted_call}
use Rattle.shifts.specs.Shift.{shift_call}
use Rattle.electric.specs.Electric.{electric_call}
use Rattle.exports.proofs.OnSheets.{small_result, small_place, few_small, complex_accepted}
use Rattle.u1_exports.proofs.Places.{place_small}
use Rattle.u1_exports.proofs.Entries.{entries_small, rows_small}

pub index_small : (c : Complex) (L : ℕ) (s old : List ℤ) (l : List ℤ) (r : Result ℕ Unplaced) → Answered (index_call c L s old) (place_answer r) l → IfOk r (λ n. n < 2 ^ 31)
unfolding index_call
index_small c L s old l r h = small_place r h place_small

pub shift_small : (c : Complex) (L : ℕ) (s : List ℤ) (e : ℕ) (d : ℤ) (old old' : List ℤ) (l : List ℤ × List ℤ) (r : Result ℕ Unplaced) → Answered (shift_call c L s e d old old') (place_answer r) l → IfOk r (λ n. n < 2 ^ 31)
unfolding shift_call
shift_small c L s e d old old' l r h = small_place r h place_small

pub electric_small : (c : Complex) (L : ℕ) (a : List Float) (old : List ℤ) (old' : List Float) (l : List ℤ × List Float) (r : Result ℕ Refusal) → Answered (electric_call c L a old old') (answer_of r) l → IfOk r (λ n. n < 2 ^ 31)
unfolding electric_call
electric_small c L a old old' l r h = small_result r h (λ k. few_small k refl)

pub triangle_small : (c : Complex) (L t i : ℕ) (old : List ℤ) (l : List ℤ) (r : Result ℕ Refusal) → Answered (triangle_call c L t i old) (answer_of r) l → IfOk r (λ n. n < 2 ^ 31)
unfolding triangle_call
triangle_small c L t i old l r h = small_result r h place_small

pub count_small : (c : Complex) (L : ℕ) (r : Result ℕ Refusal) → Answered (entries_call c L) (answer_of r) none_lent → IfOk r (λ n. n < 2 ^ 31)
unfolding entries_call
count_small c L r h = small_result r h entries_small

pub dense_small : (c : Complex) (L : ℕ) (p : KSParams) (g : Bool) (w : List Float) (a : List ℤ) (b : List Float) (l : List ℤ × List Float) (r : Result ℕ Refusal) → Answered (u1_dense_call c L p g w a b) (answer_of r) l → IfOk r (λ n. n < 2 ^ 31)
unfolding u1_dense_call
dense_small c L p g w a b l r h = small_result r h (λ k. few_small k refl)

pub product_small : (c : Complex) (L : ℕ) (p : KSParams) (g : Bool) (w x : List Float) (a : List ℤ) (b : List Float) (l : List ℤ × List Float) (r : Result ℕ Refusal) → Answered (u1_product_call c L p g w x a b) (answer_of r) l → IfOk r (λ n. n < 2 ^ 31)
unfolding u1_product_call
product_small c L p g w x a b l r h = small_result r h (λ k. few_small k refl)

pub rows_few : (b : List ℕ) (s : Sheet) → Answered (reading_call b) (value s) none_lent → (L : ℕ) (p : KSParams) (g : Bool) (w : List Float) (a : List ℤ) (d e : List ℕ) (v : List Float) (l : List ℤ × List ℕ × List ℕ × List Float) (r : Result ℕ Refusal)
    → Answered (csr_call (complex_of s.complex) L p g w a d e v) (answer_of r) l → IfOk r (λ n. n < 2 ^ 31)
unfolding csr_call
rows_few b s read L p g w a d e v l r h = small_result r h (rows_small s.complex (complex_accepted b read) L p _)

pub listed_small : (c : Complex) (L : ℕ) (old l : List ℤ) (r : Result ℕ Refusal) → Answered (enumerated_call c L old) (answer_of r) l → IfOk r (λ n. n < 2 ^ 31)
unfolding enumerated_call
listed_small c L old l r h = small_result r h (λ k. few_small k.few refl)

pub counted_small : (c : Complex) (L : ℕ) (r : Result ℕ Refusal) → Answered (counted_call c L) (answer_of r) none_lent → IfOk r (λ n. n < 2 ^ 31)
unfolding counted_call
counted_small c L r h = small_result r h (λ k. few_small k.few refl)
