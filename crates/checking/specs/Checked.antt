-- What the answer to values on a sheet says, and what it is worth.
use Rattle.std.specs.Prelude.{ℕ, ◌≤◌, List, [], ◌≡◌, ℤ, length, take}
use Rattle.mathematics.specs.Lists.{In}
use Rattle.complex.specs.Complex.{complex_of}
use Rattle.answers.specs.declared.finding.Finding.{Finding}
use Rattle.gauss_law.specs.Listing.{states}
use Rattle.sheet.specs.Sheet.{sheet_in}
use Rattle.hilbert.specs.Basis.{Unlisted}
use Rattle.checking.specs.declared.Checked.{Checked}
use Rattle.checking.specs.Text.{check_refusal, finding_line, check_text}

-- the front of a list is the line, and the number is that of the refusal, 0 for none
pub record LineTold (number : ℕ) (line out : List ℕ) (r : Checked) : Type 0 where
  pub bytes : take r.len out ≡ line
  pub fits : r.len ≤ length out
  pub refusal : r.number ≡ number

-- For a theorem: values with no refusal are one of the states of the sheet. Values with the refusal 17 are none, and the line is that of a finding,
-- which says why.
pub record CheckKnown (bytes : List ℕ) (values : List ℤ) : Type 0 where
  pub listed : check_refusal bytes values ≡ 0 → In [] values (states (complex_of (sheet_in bytes).complex) (sheet_in bytes).lambda)
  pub unlisted : check_refusal bytes values ≡ 17
      → (f : Finding) × Unlisted (complex_of (sheet_in bytes).complex) (sheet_in bytes).lambda values f × (check_text bytes values ≡ finding_line (sheet_in bytes).lambda f)
