-- The lists of su2_hamiltonian_matvec.
use Prim.Native.Nat.{ℕ, ◌≤◌}
use mathlib.Core.Bool.{false, ◌||◌}
use mathlib.Core.Path.{◌≡◌}
use borrow.Author.Tests.{ltb-false}
use lib.Dec.{ltb}
use Rattle.mathematics.proofs.Tests.{or_fell}

-- lists that are not too short for n states
pub long_enough : (n a b : ℕ) → (ltb a n || ltb b n) ≡ false → (n ≤ a) × (n ≤ b)
long_enough n a b h =
    let fell = or_fell (ltb a n) (ltb b n) h in
    (ltb-false a n fell.0, ltb-false b n fell.1)
