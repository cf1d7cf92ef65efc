-- How a run of the program came out.
use Rattle.std.specs.Prelude.{ℕ, zero, suc, List, Option, Result, Ok, Err, ◌⊎◌, ◌≡◌}
use Rattle.std.specs.Io.KnownBytes.{Appends}
use Rattle.basis.specs.declared.Status.{Status}
use Rattle.basis.specs.declared.Status.TheVariants.{Answered, Refused, WrongUsage, Failed}

-- the byte of the digit that the launcher makes its exit status of: 0, 1, 2 or 3
unfoldable pub status_digit : Status → ℕ
status_digit Answered = 48
status_digit Refused = 49
status_digit WrongUsage = 50
status_digit Failed = 51

-- the status of an answer with a refusal, 0 for none
unfoldable pub status_of : ℕ → Status
status_of zero = Answered
status_of (suc n) = Refused

-- the status of an answer that was written, or could not be
abbrev pub status_after : {A E : Type 0} → Result A E → ℕ → Status
status_after (Ok done) refusal = status_of refusal
status_after (Err why) refusal = Failed

-- what is told of an answer with a refusal: that it could not be written, or how it came out
abbrev pub Told : ℕ → Status → Type 0
Told refusal r = (r ≡ Failed) ⊎ (r ≡ status_of refusal)

-- The same of a text and its refusal. Where it is not told that it could not be written, all of the text went out, to a writer whose bytes are known
-- before and after.
pub record Answers (refusal : ℕ) (text : List ℕ) (old new : Option (List ℕ)) (r : Status) : Type 0 where
  pub told : Told refusal r
  pub given : r ≡ status_of refusal → Appends old new text
