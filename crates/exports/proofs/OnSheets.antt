-- A sheet that was read, and a call on it.
use Prim.Native.Nat.{ℕ, ◌≤◌, ◌<◌, ◌^◌}
use mathlib.Core.List.{List}
use mathlib.Core.Bool.{true}
use mathlib.Core.Path.{◌≡◌, sym, subst, ap, ◌∙◌}
use native.Mathlib.Omega.{arith}
use borrow.Author.Tests.{ne_eqb, leb-true}
use lib.Dec.{leb}
use lib.IntN.{ℤ, pos, neg_ℤ}
use lib.Signed.{mag}
use mir.Syntax.{w64}
use mir.Val.{to_z, of_z}
use Rattle.std.proofs.Common.{Option, Result, Ok, Err, IfOk}
use Rattle.mathematics.specs.Refusals.{Outcome, value, refused, first}
use Rattle.mathematics.specs.Calls.{Call, Answered, none_lent}
use Rattle.mathematics.proofs.Calls.{among, refuses}
use Rattle.mathematics.proofs.Signed.{back64}
use Rattle.answers.specs.Refusal.{answer_of, place_answer}
use Rattle.answers.specs.declared.finding.Unplaced.{Unplaced}
use Rattle.answers.specs.declared.refusal.Refusal.{Refusal}
use Rattle.answers.proofs.Outcomes.{refused_number, refused_some, value_none}
use Rattle.sheet.specs.declared.Sheet.{Sheet}
use Rattle.complex.specs.Complex.{Complex, complex_of}
use Rattle.complex.specs.Judge.{refusal}
use Rattle.complex.proofs.Accepting.{counts_own}
use Rattle.sheet.specs.Sheet.{reading_tests, reading_call}
use Rattle.sheet.proofs.Reading.{read_is, read_ready, read_goes_on}
use Rattle.exports.specs.Exports.{signed, none_of, zero_of, complex_in, lambda_in, on_sheet, none_found, zero_told, Exported}
use Rattle.exports.proofs.Signs.{exports, none_outcome, zero_outcome}

pub few_small : {n m : ℕ} → n ≤ m → leb m 1048576 ≡ true → n < 2 ^ 31
few_small {n} {m} h few = let limit = leb-true m 1048576 few in omega arith

-- what a call answers is small where its value is
small_value : {B : Type 0} {call : Call ℕ B} {l : B} (n : ℕ) → Answered call (value n) l → (call.known → call.value < 2 ^ 31) → n < 2 ^ 31
small_value {call = call} n h small = let v = value_none n (first call.tests) call.value h.answer in let k = small (h.known v.0) in omega arith

pub small_result : {B : Type 0} {call : Call ℕ B} {l : B} (r : Result ℕ Refusal) → Answered call (answer_of r) l → (call.known → call.value < 2 ^ 31) → IfOk r (λ n. n < 2 ^ 31)
small_result (Ok n) h small = small_value n h small
small_result (Err e) h small = tt

-- the same of a place
pub small_place : {B : Type 0} {call : Call ℕ B} {l : B} (r : Result ℕ Unplaced) → Answered call (place_answer r) l → (call.known → call.value < 2 ^ 31) → IfOk r (λ n. n < 2 ^ 31)
small_place (Ok n) h small = small_value n h small
small_place (Err e) h small = tt

-- a call that looks for something
pub none_answered : {A B : Type 0} {call : Call (Option A) B} {a : Outcome (Option A)} {l : B} → Answered call a l → Answered (none_found call) (none_of a) l
unfolding none_found
none_answered {A} {B} {call} h = record { answer = ap none_of h.answer ∙ none_outcome (first call.tests) call.value; lists = h.lists; known = h.known }

-- a call whose value is not told
pub zero_answered : {A B : Type 0} {call : Call A B} {a : Outcome A} {l : B} → Answered call a l → Answered (zero_told call) (zero_of a) l
unfolding zero_told
zero_answered {A} {B} {call} h = record { answer = ap zero_of h.answer ∙ zero_outcome (first call.tests) call.value; lists = h.lists; known = h.known }

pub small_zero : {A B : Type 0} {call : Call A B} {a : Outcome A} {l : B} → Answered call a l → (r : Result ℕ Refusal) → answer_of r ≡ zero_of a → IfOk r (λ n. n < 2 ^ 31)
unfolding zero_told
small_zero {A} {B} {call} {a} {l} h r e = small_result r (subst (λ o. Answered (zero_told call) o l) (sym e) (zero_answered h)) (λ k. omega arith)

-- ---- a sheet that was read, and a call on it
module _ {B : Type 0} (b : List ℕ) (call : Complex → ℕ → Call ℕ B) {l : B} {r : ℤ} (fits : mag r < 2 ^ 63) where
  -- the sheet is refused
  pub unread : {k : ℕ} → Answered (reading_call b) (refused k) none_lent → r ≡ neg_ℤ (pos k) → l ≡ (call (complex_in b) (lambda_in b)).before → Exported (on_sheet b call) (to_z w64 (of_z w64 r)) l
  unfolding on_sheet reading_call signed
  unread {k} h is kept =
      let e = refused_number k _ _ h.answer in
      let some = refused_some k _ _ h.answer in
      rw kept (exports (refuses (on_sheet b call) (among (reading_tests b) _ e some) (ne_eqb k 0 some)) (back64 r fits ∙ is))

  -- or the call on what it holds has answered
  pub read_and_called : {s : Sheet} → Answered (reading_call b) (value s) none_lent → {a : Outcome ℕ} → Answered (call (complex_of s.complex) s.lambda) a l → r ≡ signed a → Exported (on_sheet b call) (to_z w64 (of_z w64 r)) l
  unfolding on_sheet
  read_and_called {s} h {a} given is =
      let own = call (complex_in b) (lambda_in b) in
      let g : Answered own a l = rw (read_is b s h) at given in
      let e : first (on_sheet b call).tests ≡ first own.tests = read_goes_on b s h own.tests in
      record {
        answer = rw e (back64 r fits ∙ is ∙ ap signed g.answer);
        lists = rw e g.lists;
        known = λ z. g.known (sym e ∙ z);
      }

-- the complex that was read is accepted
pub complex_accepted : (b : List ℕ) {s : Sheet} → Answered (reading_call b) (value s) none_lent → refusal (complex_of s.complex) ≡ 0
complex_accepted b {s} h = (read_ready b s h).0

pub few_edges_read : (b : List ℕ) (s : Sheet) → Answered (reading_call b) (value s) none_lent → s.complex.n_edges ≤ 63
few_edges_read b s h = (counts_own s.complex (complex_accepted b h)).edges

pub few_triangles_read : (b : List ℕ) (s : Sheet) → Answered (reading_call b) (value s) none_lent → s.complex.n_triangles ≤ 256
few_triangles_read b s h = (counts_own s.complex (complex_accepted b h)).triangles
