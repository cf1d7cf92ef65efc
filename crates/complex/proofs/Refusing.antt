-- A call that judges a complex first and then goes on with tests of its own.
use Prim.Native.Nat.{ℕ}
use mathlib.Core.List.{List, ◌++◌}
use mathlib.Core.Path.{◌≡◌, refl}
use mathlib.Core.Bool.{Bool}
use Rattle.mathematics.specs.Tests.{every_entry}
use Rattle.mathematics.specs.Refusals.{first}
use Rattle.mathematics.proofs.Refusals.{numbered}
use Rattle.mathematics.proofs.Calls.{Tells, among, past_all}
use Rattle.complex.specs.Complex.{Complex}
use Rattle.complex.specs.Judge.{complex_tests, truncated_tests, refusal}

-- the complex is refused, or accepted
pub record_refuses : (c : Complex) {k : ℕ} → k ≡ refusal c → (k ≡ 0 → ⊥) → (rest : List (ℕ × Bool)) → Tells (complex_tests c ++ rest) k
unfolding refusal
record_refuses c e some rest = among (complex_tests c) rest e some

pub past_record : (c : Complex) → refusal c ≡ 0 → {rest : List (ℕ × Bool)} {k : ℕ} → Tells rest k → Tells (complex_tests c ++ rest) k
unfolding refusal numbered every_entry
past_record c good t = past_all (complex_tests c) refl good t

-- and with a truncation
pub truncated_refuses : (c : Complex) (L : ℕ) {k : ℕ} → k ≡ first (truncated_tests c L) → (k ≡ 0 → ⊥) → (rest : List (ℕ × Bool)) → Tells (truncated_tests c L ++ rest) k
truncated_refuses c L e some rest = among (truncated_tests c L) rest e some

pub past_truncated : (c : Complex) (L : ℕ) → first (truncated_tests c L) ≡ 0 → {rest : List (ℕ × Bool)} {k : ℕ} → Tells rest k → Tells (truncated_tests c L ++ rest) k
unfolding numbered every_entry
past_truncated c L good t = past_all (truncated_tests c L) refl good t
