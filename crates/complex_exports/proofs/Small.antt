-- What the calls below answer is small.
use Rattle.std.proofs.Common.{◌^◌, ◌<◌, List, ℕ, ℤ, Result, IfOk, refl}
use Rattle.mathematics.specs.Calls.{Answered}
use Rattle.answers.specs.Refusal.{answer_of}
use Rattle.answers.specs.declared.refusal.Refusal.{Refusal}
use Rattle.complex.specs.Complex.{Complex}
use Rattle.gauss_law.specs.Spanning.{tree_call}
use Rattle.loops.specs.Loops.{loops_call, su2_loops_call}
use Rattle.refusals.specs.Sentences.{text_call}
use Rattle.making.specs.Making.{making_call}
use Rattle.exports.proofs.OnSheets.{small_result, few_small}

pub tree_small : (c : Complex) (tree free : List ℕ) (l : List ℕ × List ℕ) (r : Result ℕ Refusal) → Answered (tree_call c tree free) (answer_of r) l → IfOk r (λ n. n < 2 ^ 31)
unfolding tree_call
tree_small c tree free l r h = small_result r h (λ k. few_small k refl)

pub sheet_small : (n : ℕ) (edges triangles : List ℕ) (lambda : ℕ) (old l : List ℕ) (r : Result ℕ Refusal) → Answered (making_call n edges triangles lambda old) (answer_of r) l → IfOk r (λ n. n < 2 ^ 31)
unfolding making_call
sheet_small n edges triangles lambda old l r h = small_result r h (λ k. few_small k refl)

pub loops_small : (c : Complex) (starts edges : List ℕ) (directions : List ℤ) (l : List ℕ × List ℕ × List ℤ) (r : Result ℕ Refusal) → Answered (loops_call c starts edges directions) (answer_of r) l → IfOk r (λ n. n < 2 ^ 31)
unfolding loops_call
loops_small c starts edges directions l r h = small_result r h (λ k. few_small k.few refl)

pub su2_loops_small : (c : Complex) (starts edges : List ℕ) (l : List ℕ × List ℕ) (r : Result ℕ Refusal) → Answered (su2_loops_call c starts edges) (answer_of r) l → IfOk r (λ n. n < 2 ^ 31)
unfolding su2_loops_call
su2_loops_small c starts edges l r h = small_result r h (λ k. few_small k.few refl)

pub text_small : (n : ℕ) (old l : List ℕ) (r : Result ℕ Refusal) → Answered (text_call n old) (answer_of r) l → IfOk r (λ k. k < 2 ^ 31)
unfolding text_call
text_small n old l r h = small_result r h (λ k. few_small k.few refl)
