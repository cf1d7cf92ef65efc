-- Reading and writing undo each other.
use Rattle.std.specs.Prelude.{ℕ, ◌<◌, List, ◌≡◌, get_or, length}
use Rattle.mathematics.specs.Refusals.{first}
use Rattle.complex.specs.Complex.{complex_of}
use Rattle.complex.specs.Judge.{truncated_tests}
use Rattle.sheet.specs.declared.Sheet.{Sheet}
use Rattle.sheet.specs.Sheet.{sheet_in, reading_refusal, sheet_bytes}

-- what reading gives of the bytes of an accepted sheet
pub record ReadBack (s : Sheet) (b : List ℕ) : Type 0 where
  pub accepted : reading_refusal b ≡ 0
  pub complex : complex_of (sheet_in b).complex ≡ complex_of s.complex
  pub truncation : (sheet_in b).lambda ≡ s.lambda

-- the bytes of an accepted sheet are read back as its complex and truncation
abbrev pub WrittenThenRead : Type 0
WrittenThenRead = (s : Sheet) → first (truncated_tests (complex_of s.complex) s.lambda) ≡ 0 → ReadBack s (sheet_bytes (complex_of s.complex) s.lambda)

-- an accepted list of bytes is what is written of the sheet that was read from it
abbrev pub ReadThenWritten : Type 0
ReadThenWritten =
    (b : List ℕ) → ((i : ℕ) → i < length b → get_or b i 0 < 256) → reading_refusal b ≡ 0 → sheet_bytes (complex_of (sheet_in b).complex) (sheet_in b).lambda ≡ b
