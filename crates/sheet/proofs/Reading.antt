-- What reading the bytes of a sheet tells of a list of tests that begins with those of reading.
use Prim.Native.Nat.{ℕ, ◌≤◌}
use mathlib.Core.List.{List, ◌++◌}
use mathlib.Core.Path.{◌≡◌, refl, sym, ◌∙◌}
use mathlib.Core.Logic.{◌≢◌}
use mathlib.Core.Bool.{Bool}
use native.Mathlib.Omega.{arith}
use Rattle.mathematics.specs.Tests.{every_entry}
use Rattle.mathematics.specs.Refusals.{first, value, refused}
use Rattle.mathematics.specs.Calls.{Answered, none_lent}
use Rattle.mathematics.proofs.Refusals.{numbered, first_stops, first_goes_on, first_not}
use Rattle.complex.specs.Complex.{complex_of}
use Rattle.complex.specs.Judge.{refusal}
use Rattle.answers.proofs.Outcomes.{refused_number, refused_some, value_none}
use Rattle.sheet.specs.declared.Sheet.{Sheet}
use Rattle.sheet.specs.Sheet.{sheet_in, header_tests, reading_tests, reading_refusal, reading_call}
use Rattle.sheet.proofs.Sheets.{header_of, shape_decides}
use Rattle.sheet.proofs.RoundTrips.{header_none}

module _ (b : List ℕ) where
  pub in_range : reading_refusal b ≡ 0 → (refusal (complex_of (sheet_in b).complex) ≡ 0) × ((sheet_in b).lambda ≤ 1000)
  unfolding sheet_in
  in_range h = let header = header_none b h in (sym (shape_decides b header) ∙ h, (header_of b header).truncation)

  -- a reason of reading is the first
  pub stops : (n : ℕ) → reading_refusal b ≡ n → (n ≡ 0 → ⊥) → (more : List (ℕ × Bool)) → first (reading_tests b ++ more) ≡ n
  unfolding reading_refusal
  stops n e some more = first_stops (reading_tests b) more (λ z. some (sym e ∙ z)) ∙ e

  -- where there is none, the tests that follow decide
  pub goes_on : reading_refusal b ≡ 0 → (more : List (ℕ × Bool)) → first (reading_tests b ++ more) ≡ first more
  unfolding reading_refusal header_tests numbered every_entry
  goes_on e more = first_goes_on (reading_tests b) more refl e

  -- 17 is no reason of reading
  pub not_17 : reading_refusal b ≢ 17
  unfolding reading_refusal header_tests every_entry
  not_17 = first_not 17 (reading_tests b) refl (λ z. omega arith)

  -- the sheet was read: it is accepted, and the tests that follow decide
  module _ (s : Sheet) (h : Answered (reading_call b) (value s) none_lent) where
    read_none : (reading_refusal b ≡ 0) × (s ≡ sheet_in b)
    unfolding reading_call reading_refusal
    read_none = value_none s _ _ h.answer

    pub read_is : s ≡ sheet_in b
    read_is = read_none.1

    pub read_ready : (refusal (complex_of s.complex) ≡ 0) × (s.lambda ≤ 1000)
    read_ready = rw read_is (in_range read_none.0)

    pub read_goes_on : (more : List (ℕ × Bool)) → first (reading_tests b ++ more) ≡ first more
    read_goes_on more = goes_on read_none.0 more

  -- or it was refused
  module _ (k : ℕ) (h : Answered (reading_call b) (refused k) none_lent) where
    refused_is : reading_refusal b ≡ k
    unfolding reading_call reading_refusal
    refused_is = sym (refused_number k _ _ h.answer)

    pub refused_none : k ≡ 0 → ⊥
    unfolding reading_call
    refused_none = refused_some k _ _ h.answer

    pub refused_other : k ≡ 17 → ⊥
    refused_other z = not_17 (refused_is ∙ z)

    pub refused_stops : (more : List (ℕ × Bool)) → first (reading_tests b ++ more) ≡ k
    refused_stops more = stops k refused_is refused_none more
