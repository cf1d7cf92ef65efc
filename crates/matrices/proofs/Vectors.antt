-- What the judge of the weights, the coupling and the vector tells.
use Prim.Native.Nat.{ℕ}
use mathlib.Core.List.{List, ◌++◌}
use mathlib.Core.Bool.{Bool, true, false, not, ◌&&◌, ◌||◌, cond}
use mathlib.Core.Path.{◌≡◌, refl}
use lib.Dec.{eqb}
use lib.Ieee.{Float}
use lib.ListN.{length}
use native.Mathlib.Omega.{arith}
use borrow.Author.Tests.{eqb-true, not-false}
use Rattle.mathematics.specs.Tests.{every_entry}
use Rattle.mathematics.specs.Refusals.{first}
use Rattle.mathematics.proofs.Refusals.{numbered}
use Rattle.mathematics.proofs.Tests.{or_fell}
use Rattle.mathematics.proofs.Calls.{Tells, among, past_all}
use Rattle.matrices.specs.Weights.{bounded, weights_tests, vector_tests, Weighed}

module _ (n : ℕ) (v : List Float) (triangles : ℕ) (right given : Bool) (weights : List Float) where
  abbrev miscounted : Bool
  miscounted = given && not (eqb (length weights) triangles)

  abbrev unfit : Bool
  unfit = not right || (given && not (every_entry bounded weights))

  abbrev tests : List (ℕ × Bool)
  tests = vector_tests n v triangles right given weights

  pub miscounted_told : (miscounted || not (eqb (length v) n)) ≡ true → 12 ≡ first tests
  unfolding vector_tests first
  miscounted_told h = rw h

  module _ (fits : (miscounted || not (eqb (length v) n)) ≡ false) where
    pub weights_told : (first (weights_tests triangles right given weights) ≡ 0 → ⊥) → first (weights_tests triangles right given weights) ≡ first tests
    unfolding weights_tests vector_tests first
    weights_told some = let e : miscounted ≡ false = (or_fell miscounted _ fits).0 in rw (fits, e) (go unfit _ (rw e at some))
      where
        go : (a b : Bool) → (◌≡◌ {A = ℕ} (cond a 14 0) 0 → ⊥) → ◌≡◌ {A = ℕ} (cond a 14 0) (cond (a || b) 14 0)
        go true b s = refl
        go false b s = absurd (s refl)

    module _ (passed : first (weights_tests triangles right given weights) ≡ 0) where
      fit_weights : unfit ≡ false
      unfolding weights_tests first
      fit_weights = let e : miscounted ≡ false = (or_fell miscounted _ fits).0 in go unfit (rw e at passed)
        where
          go : (a : Bool) → ◌≡◌ {A = ℕ} (cond a 14 0) 0 → a ≡ false
          go true s = absurd (omega (arith, s))
          go false s = refl

      pub amplitude_told : every_entry bounded v ≡ false → 14 ≡ first tests
      unfolding vector_tests first
      amplitude_told h = rw (fits, fit_weights, h)

      pub all_told : every_entry bounded v ≡ true → 0 ≡ first tests
      unfolding vector_tests first
      all_told h = rw (fits, fit_weights, h)

  -- they are refused, or what is judged after them decides
  pub vector_refuses : {k : ℕ} → k ≡ first tests → (k ≡ 0 → ⊥) → (rest : List (ℕ × Bool)) → Tells (tests ++ rest) k
  vector_refuses e some rest = among tests rest e some

  pub past_vector : first tests ≡ 0 → {rest : List (ℕ × Bool)} {k : ℕ} → Tells rest k → Tells (tests ++ rest) k
  unfolding vector_tests numbered every_entry
  past_vector h t = past_all tests refl h t

  -- weights and amplitudes that pass are one for each triangle and one for each state
  module _ (h : first tests ≡ 0) where
    none_miscounted : (miscounted || not (eqb (length v) n)) ≡ false
    unfolding vector_tests first
    none_miscounted = go (miscounted || not (eqb (length v) n)) (unfit || not (every_entry bounded v)) h
      where
        go : (a b : Bool) → ◌≡◌ {A = ℕ} (cond a 12 (cond b 14 0)) 0 → a ≡ false
        go true b k = absurd (omega (arith, k))
        go false b k = refl

    pub weights_fit : Weighed triangles given weights
    weights_fit = record { one_each = λ some. eqb-true _ _ (not-false _ (rw some at (or_fell miscounted _ none_miscounted).0)) }

    pub vector_fits : length v ≡ n
    vector_fits = eqb-true _ _ (not-false _ (or_fell miscounted _ none_miscounted).1)
