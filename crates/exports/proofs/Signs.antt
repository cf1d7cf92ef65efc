-- The signed number of an answer.
use Prim.Native.Nat.{ℕ, zero, suc, ◌<◌, ◌^◌}
use mathlib.Core.Path.{◌≡◌, refl, ap, ◌∙◌}
use mathlib.Core.Bool.{cond}
use Rattle.std.proofs.Common.{Option}
use Rattle.std.specs.Option.{is_none}
use native.Mathlib.Omega.{arith}
use lib.IntN.{ℤ, pos}
use lib.Signed.{mag}
use mir.Syntax.{w64}
use mir.Val.{to_z, of_z}
use Rattle.mathematics.proofs.Signed.{back64}
use mir.Facts.{to_z_pos}
use Rattle.mathematics.specs.Refusals.{Outcome, outcome}
use Rattle.mathematics.specs.Calls.{Call, Answered}
use Rattle.exports.specs.Exports.{signed, none_of, zero_of, Exported}

pub plain : (n : ℕ) → n < 2 ^ 31 → to_z w64 n ≡ pos n
plain n h = to_z_pos w64 (omega arith)

-- an answer of a call is exported as its signed number
pub exports : {B : Type 0} {call : Call ℕ B} {a : Outcome ℕ} {l : B} → Answered call a l → {r : ℤ} → r ≡ signed a → Exported call r l
exports h is = record { answer = is ∙ ap signed h.answer; lists = h.lists; known = h.known }

pub told : {B : Type 0} {call : Call ℕ B} {a : Outcome ℕ} {l : B} {r : ℤ} → Answered call a l → mag r < 2 ^ 63 → r ≡ signed a → Exported call (to_z w64 (of_z w64 r)) l
told {r = r} h fits is = exports h (back64 r fits ∙ is)

pub none_outcome : {A : Type 0} (n : ℕ) (o : Option A) → none_of (outcome n o) ≡ outcome n (cond (is_none o) 1 0)
unfolding none_of outcome
none_outcome zero o = refl
none_outcome (suc n) o = refl

pub zero_outcome : {A : Type 0} (n : ℕ) (a : A) → zero_of (outcome n a) ≡ outcome n 0
unfolding zero_of outcome
zero_outcome zero a = refl
zero_outcome (suc n) a = refl
