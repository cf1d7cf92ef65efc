-- What an exported function answered is what its call answers.
use Prim.Native.Nat.{ℕ, ◌<◌, ◌^◌}
use mathlib.Core.Bool.{Bool, ◌&&◌}
use mathlib.Core.Path.{◌≡◌, ap, ◌∙◌}
use lib.Dec.{eqb}
use lib.IntN.{ℤ}
use lib.Signed.{mag}
use mir.Syntax.{w64}
use mir.Val.{SFits, of_z}
use Rattle.mathematics.specs.Calls.{Call}
use Rattle.exports.specs.Exports.{Exported}
use Rattle.recorded.specs.Answers.{tells, leaves, agrees}
use Rattle.mathematics.proofs.Signed.{equal_bits}

-- the numbers are compared by their bits
module _ {B : Type 0} {call : Call ℕ B} {r : ℤ} {l : B} (h : Exported call r l) (ok : mag r < 2 ^ 63) {told : ℤ} (fits : SFits w64 told) where
  -- the number alone
  pub told_by : eqb (of_z w64 r) (of_z w64 told) ≡ tells call told
  unfolding tells
  told_by = equal_bits w64 r told (record { sfits = ok }) fits ∙ rw h.answer

  -- the number, and a test of the lists
  pub agrees_by : {lists : Bool} (test : B → Bool) → lists ≡ test l → (eqb (of_z w64 r) (of_z w64 told) && lists) ≡ agrees call told test
  unfolding leaves agrees
  agrees_by test f = rw (told_by, f ∙ ap test h.lists)
