-- A refusal whose number is 17 carries a finding, which goes to the numbers that are lent for it.
use Prim.Native.Nat.{ℕ}
use mathlib.Core.List.{List}
use mathlib.Core.Path.{◌≡◌, refl, sym, ap, ◌∙◌}
use native.Mathlib.Omega.{arith}
use lib.IntN.{ℤ, pos, neg_ℤ}
use lib.Signed.{mag}
use mir.Syntax.{w64}
use mir.Val.{to_z, of_z}
use Rattle.std.proofs.Common.{Result, Ok, Err, ◌<◌, ◌^◌}
use Rattle.mathematics.specs.Refusals.{value, refused, first, outcome}
use Rattle.mathematics.specs.Calls.{Call, Answered, none_lent}
use Rattle.answers.specs.Refusal.{unplaced_number, place_answer, FindingTold}
use Rattle.answers.specs.declared.finding.Finding.{Finding}
use Rattle.answers.specs.declared.finding.Unplaced.{Unplaced}
use Rattle.answers.specs.declared.finding.Unplaced.TheVariants.{NotInBasis}
use Rattle.answers.proofs.Numbers.{carried}
use Rattle.answers.proofs.Outcomes.{refused_number, value_none}
use Rattle.sheet.specs.declared.Sheet.{Sheet}
use Rattle.complex.specs.Complex.{Complex, complex_of}
use Rattle.sheet.proofs.Reading.{read_is, read_goes_on, refused_other, refused_stops}
use Rattle.sheet.specs.Sheet.{reading_call}
use Rattle.exports.specs.Exports.{signed, complex_in, lambda_in, on_sheet}
use Rattle.exports.specs.Findings.{FindingStored, FindingExported}
use Rattle.exports.proofs.OnSheets.{unread, read_and_called}

-- an answer carries a finding exactly where the call refuses with 17
module _ {B : Type 0} (call : Call ℕ B) where
  refused_last : (r : Result ℕ Unplaced) → place_answer r ≡ outcome (first call.tests) call.value → first call.tests ≡ 17 → (f : Finding) × (r ≡ Err (NotInBasis f))
  refused_last (Ok n) h last = let v = value_none n (first call.tests) call.value h in absurd (omega (arith, v.0, last))
  refused_last (Err e) h last =
      let p = carried e (refused_number (unplaced_number e) (first call.tests) call.value h ∙ last) in
      (p.0, ap Err p.1)

  last_refused : (r : Result ℕ Unplaced) → place_answer r ≡ outcome (first call.tests) call.value → (f : Finding) → r ≡ Err (NotInBasis f) → first call.tests ≡ 17
  last_refused r h f is = sym (refused_number 17 (first call.tests) call.value (ap place_answer (sym is) ∙ h))

-- ---- a sheet that was read, and a call on it
module _ {B : Type 0} (b : List ℕ) (call : Complex → ℕ → Call ℕ B) (P : Complex → ℕ → Finding → Type 0) (old : ℕ × ℤ × ℕ) {l : B} {r : ℤ} (fits : mag r < 2 ^ 63) where
  -- the sheet is refused
  pub unread_found : {k : ℕ} → Answered (reading_call b) (refused k) none_lent → r ≡ neg_ℤ (pos k) → l ≡ (call (complex_in b) (lambda_in b)).before
      → FindingExported (on_sheet b call) (P (complex_in b) (lambda_in b)) old (to_z w64 (of_z w64 r)) l old
  unfolding on_sheet
  unread_found {k} h is kept =
      record {
        exported = unread b call fits h is kept;
        told = λ last. absurd (refused_other b k h (sym (refused_stops b k h _) ∙ last));
        kept = λ other. refl;
      }

  -- or the call on what it holds has answered
  pub read_and_found : {s : Sheet} → Answered (reading_call b) (value s) none_lent → (a : Result ℕ Unplaced) → Answered (call (complex_of s.complex) s.lambda) (place_answer a) l
      → FindingTold a (P (complex_of s.complex) s.lambda) → {new : ℕ × ℤ × ℕ} → FindingStored a old new → r ≡ signed (place_answer a) → FindingExported (on_sheet b call) (P (complex_in b) (lambda_in b)) old (to_z w64 (of_z w64 r)) l new
  unfolding on_sheet
  read_and_found {s} h a given found {new} stored is =
      let own = call (complex_in b) (lambda_in b) in
      let g : Answered own (place_answer a) l = rw (read_is b s h) at given in
      let its : FindingTold a (P (complex_in b) (lambda_in b)) = rw (read_is b s h) at found in
      let e : first (on_sheet b call).tests ≡ first own.tests = read_goes_on b s h own.tests in
      record {
        exported = read_and_called b call fits h given is;
        told = λ last.
            let p = refused_last own a g.answer (sym e ∙ last) in
            (p.0, its p.0 p.1, stored.told p.0 p.1);
        kept = λ other. stored.kept (λ f k. other (e ∙ last_refused own a g.answer f k));
      }
