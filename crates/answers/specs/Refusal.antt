-- The reasons for which a call refuses, each with its number in the table of refusals.
use Rattle.std.specs.Prelude.{ℕ, Option, Some, None, Result, Ok, Err, ◌≡◌}
use Rattle.mathematics.specs.Refusals.{Outcome, value, refused}
use Rattle.answers.specs.declared.finding.Finding.{Finding}
use Rattle.answers.specs.declared.finding.Unplaced.{Unplaced}
use Rattle.answers.specs.declared.finding.Unplaced.TheVariants.{Refused, NotInBasis}
use Rattle.answers.specs.declared.refusal.Refusal.{Refusal}
use Rattle.answers.specs.declared.refusal.Refusal.TheVariants.{ShortSheet, NoMark, OtherVersion, WrongCounts, LargeTruncation, WrongLength, WrongEdge, WrongTriangle, Disconnected, ManyCandidates, WrongPentachoron, WrongListLength, OutOfRange, WrongFloat, NoRoom, OutOfBand}

abbrev pub refusal_number : Refusal → ℕ
refusal_number ShortSheet = 1
refusal_number NoMark = 2
refusal_number OtherVersion = 3
refusal_number WrongCounts = 4
refusal_number LargeTruncation = 5
refusal_number WrongLength = 6
refusal_number WrongEdge = 7
refusal_number WrongTriangle = 8
refusal_number Disconnected = 9
refusal_number ManyCandidates = 10
refusal_number WrongPentachoron = 11
refusal_number WrongListLength = 12
refusal_number OutOfRange = 13
refusal_number WrongFloat = 14
refusal_number NoRoom = 15
refusal_number OutOfBand = 16

-- the number of a refusal that may carry a finding
abbrev pub unplaced_number : Unplaced → ℕ
unplaced_number (Refused r) = refusal_number r
unplaced_number (NotInBasis f) = 17

-- what an answer says
abbrev pub answer_of : {A : Type 0} → Result A Refusal → Outcome A
answer_of (Ok a) = value a
answer_of (Err r) = refused (refusal_number r)

-- the same where 17 carries a finding
abbrev pub place_answer : {A : Type 0} → Result A Unplaced → Outcome A
place_answer (Ok a) = value a
place_answer (Err u) = refused (unplaced_number u)

-- the number of the refusal of a judge, 0 where it accepts
abbrev pub judged : {A : Type 0} → Result A Refusal → ℕ
judged (Ok _) = 0
judged (Err r) = refusal_number r

-- the number of a refusal that there may be, 0 for none
abbrev pub number_of : Option Refusal → ℕ
number_of None = 0
number_of (Some r) = refusal_number r

-- what is known of the finding that an answer carries, where it does
abbrev pub FindingTold : {A : Type 0} → Result A Unplaced → (Finding → Type 0) → Type 0
FindingTold r P = (f : Finding) → r ≡ Err (NotInBasis f) → P f
