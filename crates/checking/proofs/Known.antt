-- What the numbers 0 and 17 are worth, that the smallest number is told, and that the first 906 bytes of a longer input are answered like the whole.
use Prim.Native.Nat.{ℕ, zero, suc, ◌≤◌}
use mathlib.Core.List.{List, []}
use mathlib.Core.Bool.{Bool, true, false, not, cond, true≢false}
use mathlib.Core.Path.{◌≡◌, refl, sym, ap, ◌∙◌}
use native.Mathlib.Omega.{arith}
use borrow.Author.Tests.{eqb-true}
use lib.Dec.{eqb}
use lib.IntN.{ℤ}
use lib.ListN.{length, take}
use Rattle.std.proofs.Common.{Option, Some, None}
use Rattle.std.specs.Option.{is_none}
use Rattle.mathematics.specs.Lists.{In}
use Rattle.mathematics.specs.Refusals.{first, rising_from, Smallest}
use Rattle.mathematics.proofs.Refusals.{first_smallest}
use Rattle.complex.specs.Complex.{Complex, complex_of}
use Rattle.complex.specs.Judge.{Accepted}
use Rattle.complex.proofs.Accepting.{accepted}
use Rattle.answers.specs.declared.finding.Finding.{Finding}
use Rattle.gauss_law.specs.Listing.{states}
use Rattle.sheet.specs.Sheet.{sheet_in, header_tests, reading_refusal}
use Rattle.sheet.proofs.Reading.{in_range, stops, goes_on, not_17}
use Rattle.sheet.proofs.Cut.{long_some, cut_same}
use Rattle.hilbert.specs.Basis.{in_basis, why_unlisted, Unlisted}
use Rattle.hilbert.proofs.Order.{in_basis_listed}
use Rattle.hilbert.proofs.Unlisted.{none_in_basis, unlisted_known}
use Rattle.lines.specs.Lines.{refused_line}
use Rattle.checking.specs.Text.{values_tests, check_tests, check_refusal, told, check_text}
use Rattle.checking.specs.Checked.{CheckKnown}
use Rattle.checking.proofs.Lines.{refused_told, found_told}

-- ---- values on the edges of an accepted complex
both_pass : (p q : Bool) → ◌≡◌ {A = ℕ} (cond (not p) 12 (cond (not q) 17 0)) 0 → (p ≡ true) × (q ≡ true)
both_pass false q h = absurd (omega arith)
both_pass true false h = absurd (omega arith)
both_pass true true h = (refl, refl)

last_holds : (p q : Bool) → ◌≡◌ {A = ℕ} (cond (not p) 12 (cond (not q) 17 0)) 17 → (p ≡ true) × (q ≡ false)
last_holds false q h = absurd (omega arith)
last_holds true false h = (refl, refl)
last_holds true true h = absurd (omega arith)

module _ (c : Complex) (good : Accepted c) (L : ℕ) (values : List ℤ) where
  pub none_listed : first (values_tests c L values) ≡ 0 → In [] values (states c L)
  unfolding first
  none_listed h =
      let p = both_pass (eqb (length values) (length c.edges)) (in_basis c L values) h in
      (in_basis_listed c good L values (eqb-true (length values) (length c.edges) p.0)).0 p.1

  pub seventeen_found : first (values_tests c L values) ≡ 17 → (f : Finding) × Unlisted c L values f
  unfolding first
  seventeen_found h = go (why_unlisted c L values) refl
    where
      p : (eqb (length values) (length c.edges) ≡ true) × (in_basis c L values ≡ false)
      p = last_holds (eqb (length values) (length c.edges)) (in_basis c L values) h

      go : (o : Option Finding) → why_unlisted c L values ≡ o → (f : Finding) × Unlisted c L values f
      go None e = absurd (true≢false (sym (ap is_none e) ∙ none_in_basis c L values ∙ p.1))
      go (Some f) e = (f, unlisted_known c good L values (eqb-true (length values) (length c.edges) p.0) f e)

-- ---- the bytes of a sheet
module _ (b : List ℕ) (values : List ℤ) where
  abbrev complex : Complex
  complex = complex_of (sheet_in b).complex

  passed : (n : ℕ) → check_refusal b values ≡ n → (reading_refusal b ≡ n → reading_refusal b ≡ 0) → reading_refusal b ≡ 0
  unfolding check_refusal
  passed n e other = go (reading_refusal b) refl
    where
      go : (k : ℕ) → reading_refusal b ≡ k → reading_refusal b ≡ 0
      go zero is = is
      go (suc k) is = other (is ∙ sym (stops b (suc k) is (λ z. omega arith) (values_tests complex (sheet_in b).lambda values)) ∙ e)

  good : reading_refusal b ≡ 0 → Accepted complex
  good h = (accepted (sheet_in b).complex).0 (in_range b h).0

  number : reading_refusal b ≡ 0 → first (values_tests complex (sheet_in b).lambda values) ≡ check_refusal b values
  unfolding check_refusal
  number h = sym (goes_on b h (values_tests complex (sheet_in b).lambda values))

  pub check_known : CheckKnown b values
  unfolding check_text
  check_known =
      record {
        listed = λ h. let read = passed 0 h (λ z. z) in none_listed complex (good read) (sheet_in b).lambda values (number read ∙ h);
        unlisted = λ h.
            let read = passed 17 h (λ z. absurd (not_17 b z)) in
            let (f, unlisted) = seventeen_found complex (good read) (sheet_in b).lambda values (number read ∙ h) in
            (f, unlisted, ap (λ n. told n complex (sheet_in b).lambda values) h ∙ found_told complex (sheet_in b).lambda values f unlisted.why);
      }

  -- the number told is the smallest that holds
  pub check_smallest : Smallest (check_tests b values) (check_refusal b values)
  unfolding check_refusal header_tests rising_from
  check_smallest = first_smallest (check_tests b values) refl

-- ---- a long input
refused_text : (b : List ℕ) (values : List ℤ) (n : ℕ) → reading_refusal b ≡ n → (n ≡ 0 → ⊥) → check_text b values ≡ refused_line n
unfolding check_text check_refusal
refused_text b values n is some =
    rw (stops b n is some (values_tests (complex_of (sheet_in b).complex) (sheet_in b).lambda values))
    (refused_told (complex_of (sheet_in b).complex) (sheet_in b).lambda values n some (λ z. not_17 b (is ∙ z)))

pub check_cut : (b : List ℕ) (values : List ℤ) → 906 ≤ length b → check_text (take 906 b) values ≡ check_text b values
check_cut b values long =
    let some = long_some b long in
    refused_text (take 906 b) values (reading_refusal b) (cut_same b long) some ∙ sym (refused_text b values (reading_refusal b) refl some)
