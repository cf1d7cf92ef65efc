-- What a call answers, held against what was recorded.
use Rattle.std.specs.Prelude.{ℕ, Bool, ◌&&◌, ℤ}
use Rattle.mathematics.specs.Integers.{equal}
use Rattle.mathematics.specs.Refusals.{first, outcome, written}
use Rattle.mathematics.specs.Calls.{Call}
use Rattle.exports.specs.Exports.{signed}

-- the call tells the number: its value or minus the refusal
unfoldable pub tells : {B : Type 0} → Call ℕ B → ℤ → Bool
tells call told = equal (signed (outcome (first call.tests) call.value)) told

-- what the lent lists hold at the end
unfoldable pub leaves : {B : Type 0} → Call ℕ B → B
leaves call = written (first call.tests) call.after call.before

-- the call tells the number, and what it leaves passes a test
unfoldable pub agrees : {B : Type 0} → Call ℕ B → ℤ → (B → Bool) → Bool
agrees call told lists = tells call told && lists (leaves call)
