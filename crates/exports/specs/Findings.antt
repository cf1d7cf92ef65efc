-- What the exported functions leave of a finding in the numbers that are lent for it.
use Rattle.std.specs.Prelude.{ℕ, Result, Err, ◌≡◌, ◌≢◌, ℤ, pos}
use Rattle.mathematics.specs.Refusals.{first}
use Rattle.mathematics.specs.Calls.{Call}
use Rattle.answers.specs.declared.finding.Unlawful.{Unlawful}
use Rattle.answers.specs.declared.finding.Finding.{Finding}
use Rattle.answers.specs.declared.finding.Finding.TheVariants.{BreaksLaw, OutsideBand}
use Rattle.answers.specs.declared.finding.Unplaced.{Unplaced}
use Rattle.answers.specs.declared.finding.Unplaced.TheVariants.{NotInBasis}
use Rattle.exports.specs.Exports.{Exported}

-- of a broken law the vertex, and what its sum has more than its charge
abbrev pub law_numbers : Unlawful → ℕ × ℤ → ℕ × ℤ
law_numbers f old = (f.vertex, f.excess)

-- Vertex, excess and edge. Of a broken law the vertex and the excess, which is not 0. Of an edge that is outside the band the excess 0 and the edge.
abbrev pub finding_numbers : Finding → ℕ × ℤ × ℕ → ℕ × ℤ × ℕ
finding_numbers (BreaksLaw f) old = (f.vertex, f.excess, old.2)
finding_numbers (OutsideBand e) old = (old.0, pos 0, e)

-- A number, the lists at the end and the three numbers are those of a call whose refusal 17 carries a finding, of which P is known. At 17 the three
-- numbers tell it; else they are what they were.
pub record FindingExported {B : Type 0} (call : Call ℕ B) (P : Finding → Type 0) (old : ℕ × ℤ × ℕ) (r : ℤ) (l : B) (new : ℕ × ℤ × ℕ) : Type 0 where
  pub exported : Exported call r l
  pub told : first call.tests ≡ 17 → (f : Finding) × P f × (new ≡ finding_numbers f old)
  pub kept : first call.tests ≢ 17 → new ≡ old

-- ---- as the code keeps it
-- the three numbers after an answer
pub record FindingStored {A : Type 0} (answer : Result A Unplaced) (old new : ℕ × ℤ × ℕ) : Type 0 where
  pub told : (f : Finding) → answer ≡ Err (NotInBasis f) → new ≡ finding_numbers f old
  pub kept : ((f : Finding) → answer ≢ Err (NotInBasis f)) → new ≡ old
