-- What `basis check` prints for the bytes on its standard input and the values on its command line.
use Rattle.std.specs.Prelude.{ℕ, List, [], ◌∷◌, ◌++◌, Bool, not, cond, Option, Some, None, ℤ, eqb, length}
use Rattle.mathematics.specs.Refusals.{first}
use Rattle.complex.specs.Complex.{Complex, complex_of}
use Rattle.complex.specs.Judge.{length_test}
use Rattle.answers.specs.declared.finding.Finding.{Finding}
use Rattle.answers.specs.declared.finding.Finding.TheVariants.{BreaksLaw, OutsideBand}
use Rattle.sheet.specs.Sheet.{sheet_in, reading_tests}
use Rattle.hilbert.specs.Basis.{in_basis, why_unlisted}
use Rattle.lines.specs.Lines.{refused_line, listed_line, unlawful_line, outside_line}

-- 12 and 17, of values on the edges of a complex
abbrev pub values_tests : Complex → ℕ → List ℤ → List (ℕ × Bool)
values_tests c L values = length_test c (length values) ∷ (17, not (in_basis c L values)) ∷ []

-- 1 to 9 for the sheet, then 12 and 17. 10 is not judged, since nothing is listed
abbrev pub check_tests : List ℕ → List ℤ → List (ℕ × Bool)
check_tests bytes values = reading_tests bytes ++ values_tests (complex_of (sheet_in bytes).complex) (sheet_in bytes).lambda values

unfoldable pub check_refusal : List ℕ → List ℤ → ℕ
check_refusal bytes values = first (check_tests bytes values)

-- the line of a finding
unfoldable pub finding_line : ℕ → Finding → List ℕ
finding_line L (BreaksLaw f) = unlawful_line f.vertex f.excess
finding_line L (OutsideBand e) = outside_line e L

-- the line of what may be found; no line where nothing is
unfoldable pub found_line : ℕ → Option Finding → List ℕ
found_line L None = []
found_line L (Some f) = finding_line L f

-- the line of a number: that the values are in the basis, why they are not, or another refusal
unfoldable pub told : ℕ → Complex → ℕ → List ℤ → List ℕ
told n c L values = cond (eqb n 0) listed_line (cond (eqb n 17) (found_line L (why_unlisted c L values)) (refused_line n))

unfoldable pub check_text : List ℕ → List ℤ → List ℕ
check_text bytes values = told (check_refusal bytes values) (complex_of (sheet_in bytes).complex) (sheet_in bytes).lambda values
