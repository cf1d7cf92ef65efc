-- What the judge of the weights tells, by the test that decides it.
use Prim.Native.Nat.{ℕ, ◌<◌}
use mathlib.Core.List.{List, ◌++◌}
use mathlib.Core.Bool.{Bool, true, false, not, ◌&&◌, ◌||◌, cond}
use mathlib.Core.Path.{◌≡◌, refl}
use native.Mathlib.Omega.{arith}
use borrow.Author.Tests.{eqb-true}
use lib.Dec.{eqb}
use lib.Ieee.{Float}
use lib.ListN.{length}
use Rattle.mathematics.specs.Tests.{every_entry}
use Rattle.mathematics.specs.Refusals.{first}
use Rattle.mathematics.proofs.Refusals.{numbered}
use Rattle.mathematics.proofs.Calls.{Tells, among, past_all}
use Rattle.matrices.specs.Weights.{bounded, weights_tests, Weighed}

module _ (n : ℕ) (right given : Bool) (weights : List Float) where
  pub number_told : (given && not (eqb (length weights) n)) ≡ true → 12 ≡ first (weights_tests n right given weights)
  unfolding weights_tests first
  number_told h = rw h

  module _ (fits : (given && not (eqb (length weights) n)) ≡ false) where
    pub coupling_told : right ≡ false → 14 ≡ first (weights_tests n right given weights)
    unfolding weights_tests first
    coupling_told h = rw (fits, h)

    module _ (is : right ≡ true) where
      pub absent_told : given ≡ false → 0 ≡ first (weights_tests n right given weights)
      unfolding weights_tests first
      absent_told h = rw (is, h)

      module _ (some : given ≡ true) where
        pub range_told : every_entry bounded weights ≡ false → 14 ≡ first (weights_tests n right given weights)
        unfolding weights_tests first
        range_told h = rw (fits, is, some, h)

        pub right_told : every_entry bounded weights ≡ true → 0 ≡ first (weights_tests n right given weights)
        unfolding weights_tests first
        right_told h = rw (fits, is, some, h)

  -- weights that pass are one for each triangle
  pub weights_fit : first (weights_tests n right given weights) ≡ 0 → Weighed n given weights
  unfolding weights_tests first
  weights_fit h = record { one_each = λ some. go (eqb (length weights) n) refl (rw some at h) }
    where
      go : (b : Bool) → eqb (length weights) n ≡ b → ◌≡◌ {A = ℕ} (cond (not (eqb (length weights) n)) 12 (cond (not right || not (every_entry bounded weights)) 14 0)) 0 → length weights ≡ n
      go true e k = eqb-true (length weights) n e
      go false e k = absurd (omega (arith, rw e at k))

  -- they are refused, or what is judged after them decides
  pub weights_refuse : {k : ℕ} → k ≡ first (weights_tests n right given weights) → (k ≡ 0 → ⊥) → (rest : List (ℕ × Bool)) → Tells (weights_tests n right given weights ++ rest) k
  weights_refuse e some rest = among (weights_tests n right given weights) rest e some

  pub past_weights : first (weights_tests n right given weights) ≡ 0 → {rest : List (ℕ × Bool)} {k : ℕ} → Tells rest k → Tells (weights_tests n right given weights ++ rest) k
  unfolding weights_tests numbered every_entry
  past_weights h t = past_all (weights_tests n right given weights) refl h t

-- a triangle has its weight
pub weight_there : (n : ℕ) (given : Bool) (weights : List Float) → Weighed n given weights → (t : ℕ) → t < n → given ≡ true → t < length weights
weight_there n given weights weighed t h some = rw (weighed.one_each some) h
