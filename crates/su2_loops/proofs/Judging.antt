-- What the judge of the amplitudes and the path tells, by the test that decides it.
use Prim.Native.Nat.{ℕ, ◌<◌}
use mathlib.Core.List.{List, ◌++◌}
use mathlib.Core.Bool.{Bool, true, false, not, cond}
use mathlib.Core.Path.{◌≡◌, refl}
use native.Mathlib.Omega.{arith}
use borrow.Author.Tests.{eqb-true, eq-eqb, ne_eqb, ltb-true}
use lib.Dec.{eqb, ltb}
use lib.Ieee.{Float}
use lib.ListN.{get_or, length}
use Rattle.mathematics.specs.Refusals.{first}
use Rattle.mathematics.specs.Tests.{every_entry}
use Rattle.mathematics.proofs.Calls.{Tells, among, past_all}
use Rattle.mathematics.proofs.Refusals.{numbered}
use Rattle.mathematics.proofs.Tests.{all_at}
use Rattle.matrices.specs.Weights.{bounded}
use Rattle.su2_loops.specs.Loop.{path_right, loop_tests}

-- where none of the tests holds
all_passed : (a b d : Bool) → ◌≡◌ {A = ℕ} (cond (not a) 12 (cond (not b) 13 (cond (not d) 14 0))) 0 → (a ≡ true) × (b ≡ true)
all_passed true true d h = (refl, refl)
all_passed true false d h = absurd (omega (arith, h))
all_passed false b d h = absurd (omega (arith, h))

module _ (m n : ℕ) (vector : List Float) (path : List ℕ) where
  abbrev told : ℕ
  told = first (loop_tests m n vector path)

  pub number_told : (length vector ≡ m → ⊥) → 12 ≡ told
  unfolding loop_tests first
  number_told h = rw (ne_eqb (length vector) m h)

  module _ (fits : length vector ≡ m) where
    pub path_told : path_right n path ≡ false → 13 ≡ told
    unfolding loop_tests first
    path_told h = rw (eq-eqb (length vector) m fits, h)

    module _ (right : path_right n path ≡ true) where
      pub range_told : every_entry bounded vector ≡ false → 14 ≡ told
      unfolding loop_tests first
      range_told h = rw (eq-eqb (length vector) m fits, right, h)

      pub none_told : every_entry bounded vector ≡ true → 0 ≡ told
      unfolding loop_tests first
      none_told h = rw (eq-eqb (length vector) m fits, right, h)

  -- what passes: one amplitude for each state, and every edge of the path is there
  pub loop_fits : told ≡ 0 → (length vector ≡ m) × ((k : ℕ) → k < length path → get_or path k 0 < n)
  unfolding loop_tests first path_right
  loop_fits h =
      let passed = all_passed (eqb (length vector) m) (path_right n path) (every_entry bounded vector) h in
      (eqb-true (length vector) m passed.0, λ k b. ltb-true (get_or path k 0) n (all_at (λ e. ltb e n) 0 path passed.1 k b))

  -- they are refused, or what is judged after them decides
  pub loop_refuses : {k : ℕ} → k ≡ told → (k ≡ 0 → ⊥) → (rest : List (ℕ × Bool)) → Tells (loop_tests m n vector path ++ rest) k
  loop_refuses e some rest = among (loop_tests m n vector path) rest e some

  pub past_loop : told ≡ 0 → {rest : List (ℕ × Bool)} {k : ℕ} → Tells rest k → Tells (loop_tests m n vector path ++ rest) k
  unfolding loop_tests numbered every_entry
  past_loop h t = past_all (loop_tests m n vector path) refl h t

-- the same with other names for both numbers
pub told_as : (k m n m' n' : ℕ) (vector : List Float) (path : List ℕ) → k ≡ first (loop_tests m n vector path) → m ≡ m' → n' ≡ n → k ≡ first (loop_tests m' n' vector path)
told_as k m n m' n' vector path told states edges = rw (← states, edges) told
