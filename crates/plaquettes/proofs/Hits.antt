-- The hits of a triangle: which state its shift takes to which.
use Prim.Native.Nat.{ℕ, ◌<◌, ◌≤◌}
use mathlib.Core.Bool.{Bool, true, false}
use mathlib.Core.Path.{◌≡◌, refl, sym, ◌∙◌}
use mathlib.Core.Logic.{◌≢◌}
use native.Mathlib.Omega.{arith}
use borrow.Author.Tests.{eqb-true, eq-eqb, ltb-true, lt-ltb}
use lib.Dec.{eqb, ltb}
use lib.IntN.{pos, negsuc}
use lib.ListN.{length}
use Rattle.mathematics.proofs.Integers.{positive, negative, to_parts}
use Rattle.mathematics.proofs.Tests.{and_parts, and_both, same_tests}
use Rattle.complex.specs.Complex.{Complex}
use Rattle.complex.specs.Judge.{Accepted}
use Rattle.gauss_law.specs.Listing.{states}
use Rattle.hilbert.specs.Basis.{At}
use Rattle.plaquettes.specs.Triangle.{shifted_state, sides_within, target, hits}
use Rattle.plaquettes.proofs.Moves.{target_stays, stays_at, at_target, target_turned, target_elsewhere}
use Rattle.plaquettes.proofs.Rising.{never_back}

-- a shift moves
pub one_moves : pos 1 ≢ pos 0
unfolding positive negative
one_moves e = omega (arith, to_parts (pos 1) (pos 0) e)

module _ (c : Complex) (L t i : ℕ) where
  told : (j : ℕ) → hits c L t i j ≡ true → (sides_within c L t (shifted_state c L t i) ≡ true) × (target c L t (pos 1) i ≡ j)
  unfolding hits
  told j h =
      let r = and_parts (ltb j (length (states c L))) (eqb (target c L t (pos 1) i) j) h in
      let e = eqb-true (target c L t (pos 1) i) j r.1 in
      (target_stays c L t (pos 1) i (rw e (ltb-true j (length (states c L)) r.0)), e)

  -- a hit is the target
  pub hits_target : (j : ℕ) → j < length (states c L) → hits c L t i j ≡ eqb (target c L t (pos 1) i) j
  unfolding hits
  hits_target j k = rw (lt-ltb j (length (states c L)) k)

  -- of a state there is one hit at most
  pub one_hit : (j q : ℕ) → hits c L t i j ≡ true → hits c L t i q ≡ true → j ≡ q
  one_hit j q h k = sym (told j h).1 ∙ (told q k).1

  pub no_hit : (j q : ℕ) → j ≢ q → hits c L t i q ≡ true → hits c L t i j ≡ false
  no_hit j q d h = go (hits c L t i j) refl
    where
      go : (b : Bool) → hits c L t i j ≡ b → b ≡ false
      go true e = absurd (d (one_hit j q e h))
      go false e = refl

module _ (c : Complex) (accepted : Accepted c) (L t : ℕ) (number : t < length c.triangles) where
  -- a hit is a state that stands at its place, and the other way round: `hits` means that the shift of triangle t takes state i to state j
  pub hits_at : (i j : ℕ) → i < length (states c L) → hits c L t i j ≡ true → At c L (shifted_state c L t i) j
  hits_at i j h k = let r = told c L t i j k in rw r.1 at (stays_at c accepted L t number (pos 1) i h r.0)

  pub at_hits : (i j : ℕ) → At c L (shifted_state c L t i) j → hits c L t i j ≡ true
  unfolding hits
  at_hits i j stands = and_both _ _ (lt-ltb j (length (states c L)) stands.below) (eq-eqb (target c L t (pos 1) i) j (at_target c accepted L t number (pos 1) i j stands))

  -- a state without a target hits nothing
  pub outside_hit : (i : ℕ) → i < length (states c L) → length (states c L) ≤ target c L t (pos 1) i → (j : ℕ) → hits c L t i j ≡ false
  outside_hit i h k j = go (hits c L t i j) refl
    where
      go : (b : Bool) → hits c L t i j ≡ b → b ≡ false
      go true e = absurd (omega (arith, (told c L t i j e).1, (hits_at i j h e).below))
      go false e = refl

  -- by the move back
  pub hits_back : (i j : ℕ) → i < length (states c L) → j < length (states c L) → hits c L t i j ≡ eqb (target c L t (negsuc 0) j) i
  hits_back i j h k =
      let turned = target_turned c accepted L t number (pos 1) i j h k in
      hits_target c L t i j k
      ∙ same_tests _ _
      (λ e. eq-eqb (target c L t (negsuc 0) j) i (turned.0 (eqb-true (target c L t (pos 1) i) j e)))
      (λ e. eq-eqb (target c L t (pos 1) i) j (turned.1 (eqb-true (target c L t (negsuc 0) j) i e)))

  pub no_return : (i j : ℕ) → i < length (states c L) → j < length (states c L) → hits c L t i j ≡ true → hits c L t j i ≡ false
  no_return i j h k e = go (hits c L t j i) refl
    where
      go : (b : Bool) → hits c L t j i ≡ b → b ≡ false
      go true f = absurd (never_back c accepted t number (pos 1) L one_moves i j h k (hits_at i j h e) (hits_at j i k f))
      go false f = refl

  -- the two entries of a hit are different ones
  pub elsewhere : (i q : ℕ) → i < length (states c L) → hits c L t i q ≡ true → i ≢ q
  elsewhere i q h e d = target_elsewhere c accepted L t number (pos 1) one_moves i h ((told c L t i q e).1 ∙ sym d)
