-- The entries of the dense matrix while one triangle is under way: what one state more changes.
use Prim.Native.Nat.{ℕ, ◌+◌, ◌<◌}
use mathlib.Core.Bool.{Bool, true, false, ◌&&◌, ◌||◌}
use mathlib.Core.Path.{◌≡◌, refl, ap, ap₂, ◌∙◌}
use native.Mathlib.Omega.{arith}
use native.Mathlib.Numerals.{add-one}
use native.Mathlib.Decide.{ℕ_discrete}
use borrow.Author.Tests.{lt-ltb, le-ltb}
use lib.Dec.{ltb}
use lib.Ieee.{Float}
use lib.ListN.{length}
use Rattle.mathematics.proofs.Tests.{and_true}
use Rattle.complex.specs.Complex.{Complex}
use Rattle.complex.specs.Judge.{Accepted}
use Rattle.gauss_law.specs.Listing.{states}
use Rattle.matrices.specs.declared.coupling.KSParams.{KSParams}
use Rattle.plaquettes.specs.Triangle.{hits}
use Rattle.hamiltonian.specs.Dense.{u1_entry}
use Rattle.hamiltonian.specs.Walk.{under_way, part_entry}
use Rattle.plaquettes.proofs.Hits.{no_hit, no_return}
use Rattle.matrices.proofs.Matrices.{one_higher}

-- ---- tests
and_none : (a : Bool) → (a && false) ≡ false
and_none true = refl
and_none false = refl

module _ (c : Complex) (accepted : Accepted c) (L t : ℕ) (number : t < length c.triangles) where
  -- ---- one state more
  module _ (k : ℕ) (below : k < length (states c L)) where
    -- without a hit nothing changes
    pub way_none : ((q : ℕ) → hits c L t k q ≡ false) → (i j : ℕ) → under_way c L t (k + 1) i j ≡ under_way c L t k i j
    unfolding under_way
    way_none none i j = ap₂ ◌||◌ (side i j) (side j i)
      where
        side : (i j : ℕ) → (hits c L t i j && ltb i (k + 1)) ≡ (hits c L t i j && ltb i k)
        side i j = go (ℕ_discrete i k)
          where
            go : Dec (i ≡ k) → (hits c L t i j && ltb i (k + 1)) ≡ (hits c L t i j && ltb i k)
            go (yes e) = let z : hits c L t i j ≡ false = ap (λ a. hits c L t a j) e ∙ none j in rw z
            go (no e) = ap (λ b. hits c L t i j && b) (one_higher i k e)

    module _ (q : ℕ) (there : q < length (states c L)) (hit : hits c L t k q ≡ true) where
      -- at the hit it was not added yet, and now it is
      pub way_there : (under_way c L t k k q ≡ false) × (under_way c L t (k + 1) k q ≡ true)
      unfolding under_way
      way_there = (
        rw (hit, le-ltb k k (omega arith), no_return c accepted L t number k q below there hit),
        rw (hit, lt-ltb k (k + 1) (omega arith)),
      )

      pub way_back : (under_way c L t k q k ≡ false) × (under_way c L t (k + 1) q k ≡ true)
      unfolding under_way
      way_back = (
        rw (no_return c accepted L t number k q below there hit, hit, le-ltb k k (omega arith)),
        rw (no_return c accepted L t number k q below there hit, hit, lt-ltb k (k + 1) (omega arith)),
      )

      -- everywhere else nothing changes
      pub way_elsewhere : (i j : ℕ) → ((i ≡ k) × (j ≡ q) → ⊥) → ((i ≡ q) × (j ≡ k) → ⊥) → under_way c L t (k + 1) i j ≡ under_way c L t k i j
      unfolding under_way
      way_elsewhere i j a b = ap₂ ◌||◌ (side i j a) (side j i (λ e. b (e.1, e.0)))
        where
          side : (i j : ℕ) → ((i ≡ k) × (j ≡ q) → ⊥) → (hits c L t i j && ltb i (k + 1)) ≡ (hits c L t i j && ltb i k)
          side i j a = go (ℕ_discrete i k)
            where
              go : Dec (i ≡ k) → (hits c L t i j && ltb i (k + 1)) ≡ (hits c L t i j && ltb i k)
              go (yes e) =
                  let z : hits c L t i j ≡ false = ap (λ m. hits c L t m j) e ∙ no_hit c L t k j q (λ f. a (e, f)) hit in
                  rw z
              go (no e) = ap (λ b. hits c L t i j && b) (one_higher i k e)

  -- ---- before the first state and after the last
  module _ (p : KSParams) (w : ℕ → Float) where
    pub part_none : (i j : ℕ) → part_entry c L p w t 0 i j ≡ u1_entry c L p w t i j
    unfolding part_entry under_way
    part_none i j = rw (le-ltb i 0 (omega arith), le-ltb j 0 (omega arith), and_none (hits c L t i j), and_none (hits c L t j i))

    pub part_all : (i j : ℕ) → i < length (states c L) → j < length (states c L) → part_entry c L p w t (length (states c L)) i j ≡ u1_entry c L p w (t + 1) i j
    unfolding part_entry under_way u1_entry
    part_all i j h k = rw (lt-ltb i (length (states c L)) h, lt-ltb j (length (states c L)) k, and_true (hits c L t i j), and_true (hits c L t j i), add-one t)
