-- What `basis list` prints for the bytes on its standard input.
use Rattle.std.specs.Prelude.{ℕ, List, [], ◌∷◌, ◌++◌}
use Rattle.mathematics.specs.Refusals.{first, written}
use Rattle.complex.specs.Complex.{Complex, complex_of}
use Rattle.enumeration.specs.Enumeration.{limit_test}
use Rattle.sheet.specs.Sheet.{sheet_in, reading_tests}
use Rattle.lines.specs.Lines.{refused_line}
use Rattle.lines.specs.Printed.{printed}

-- the states, or the first refusal
unfoldable pub told : ℕ → Complex → ℕ → List ℕ
told refusal c lambda = written refusal (printed c lambda) (refused_line refusal)

-- 1 to 9 for the sheet, then 10
unfoldable pub basis_refusal : List ℕ → ℕ
basis_refusal bytes =
    first (reading_tests bytes ++ (limit_test (complex_of (sheet_in bytes).complex) (sheet_in bytes).lambda ∷ []))

unfoldable pub basis_text : List ℕ → List ℕ
basis_text bytes = told (basis_refusal bytes) (complex_of (sheet_in bytes).complex) (sheet_in bytes).lambda
