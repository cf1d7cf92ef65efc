-- A counter that steps from -L on every digit goes through all lists of digits in counting order.
use Prim.Native.Nat.{ℕ, zero, suc, ◌+◌, ◌*◌, ◌^◌, ◌≤◌, ◌<◌}
use mathlib.Core.List.{List, [], ◌∷◌, ◌++◌, map, map-append, map-map, flat_map, append-nil, append_assoc}
use mathlib.Core.Bool.{Bool, true, false, cond}
use mathlib.Core.Path.{◌≡◌, refl, sym, ◌∙◌}
use native.Mathlib.Omega.{arith}
use native.Mathlib.Nat.{pow-zero, pow-succ', add-zero, add-suc}
use lib.IntN.{ℤ, pos, ◌+ℤ◌, ◌-ℤ◌, neg_ℤ}
use lib.Signed.{lt_z}
use lib.ListN.{get_or, length, set, length-set, replicate, length-replicate}
use Rattle.mathematics.specs.Counting.{below, counted, applied}
use Rattle.mathematics.proofs.Integers.{positive, negative, integral, parts, the, ◌⊞◌, ◌⊟◌, ⊖◌, less_test, not_less_test}
use Rattle.mathematics.proofs.Flat.{flat_map_last}
use Rattle.gauss_law.specs.Listing.{values}
use Rattle.walker.specs.Walker.{counted_up}

-- ---- digits as a list
unfoldable pub moved : List ℤ → ℤ → ℕ → List ℤ
moved xs t j = set xs j (get_or xs j (pos 0) +ℤ t)

unfoldable pub up_from : ℕ → ℕ → ℕ → List ℤ → List ℤ
up_from L n j xs = counted_up (λ xs j. get_or xs j (pos 0)) moved L n j xs

-- all digits are looked at
unfoldable pub up : ℕ → List ℤ → List ℤ
up L xs = up_from L (length xs) zero xs

-- the first digit stays
pub up_later : (L n j : ℕ) (x : ℤ) (xs : List ℤ) → up_from L n (suc j) (x ∷ xs) ≡ x ∷ up_from L n j xs
unfolding up_from counted_up moved
up_later L zero j x xs = refl
up_later L (suc n) j x xs = go (lt_z (get_or xs j (pos 0)) (pos L)) (up_later L n (suc j) x (moved xs (neg_ℤ (pos (2 * L))) j))
  where
    go : (b : Bool) {l m : List ℤ} → l ≡ x ∷ m → cond b (x ∷ moved xs (pos 1) j) l ≡ x ∷ cond b (moved xs (pos 1) j) m
    go true e = refl
    go false e = e

pub up_length : (L n j : ℕ) (xs : List ℤ) → length (up_from L n j xs) ≡ length xs
unfolding up_from counted_up moved
up_length L zero j xs = refl
up_length L (suc n) j xs =
    go (lt_z (get_or xs j (pos 0)) (pos L)) _ _ (length-set xs j _) (up_length L n (suc j) (moved xs (neg_ℤ (pos (2 * L))) j) ∙ length-set xs j _)
  where
    go : (b : Bool) (l m : List ℤ) → length l ≡ length xs → length m ≡ length xs → length (cond b l m) ≡ length xs
    go true l m e f = e
    go false l m e f = f

module _ (L : ℕ) where
  -- the digit number d
  abbrev pub value : ℕ → ℤ
  value d = pos d -ℤ pos L

  up_low : (d : ℕ) (xs : List ℤ) → d < 2 * L → up L (value d ∷ xs) ≡ value (suc d) ∷ xs
  unfolding up up_from counted_up moved positive negative
  up_low d xs h =
      let e : value d +ℤ pos 1 ≡ value (suc d) = omega (integral, parts (the (pos d) ⊟ the (pos L) ⊞ the (pos 1)), parts (the (pos (suc d)) ⊟ the (pos L))) in
      rw (less_test (value d) (pos L) (omega (arith, parts (the (pos d) ⊟ the (pos L)))), e)

  up_top : (xs : List ℤ) → up L (value (2 * L) ∷ xs) ≡ value zero ∷ up L xs
  unfolding up up_from counted_up moved positive negative
  up_top xs =
      let e : value (2 * L) +ℤ neg_ℤ (pos (2 * L)) ≡ value zero =
      omega (integral, parts (the (pos (2 * L)) ⊟ the (pos L) ⊞ (⊖ the (pos (2 * L)))), parts (the (pos zero) ⊟ the (pos L))) in
      rw (not_less_test (value (2 * L)) (pos L) (omega (arith, parts (the (pos (2 * L)) ⊟ the (pos L)))), e) (up_later L (length xs) zero (value zero) xs)

  -- the digits xs after k steps
  abbrev pub after : List ℤ → ℕ → List ℤ
  after xs k = applied (up L) k xs

  pub after_length : (n k : ℕ) → length (after (replicate n (value zero)) k) ≡ n
  unfolding applied up
  after_length n zero = length-replicate n (value zero)
  after_length n (suc k) = let xs = after (replicate n (value zero)) k in up_length L (length xs) zero xs ∙ after_length n k

  up_digit : (ys xs : List ℤ) (k d : ℕ) → after ys k ≡ value zero ∷ xs → d ≤ 2 * L → after ys (k + d) ≡ value d ∷ xs
  unfolding applied
  up_digit ys xs k zero e h = rw (add-zero k) e
  up_digit ys xs k (suc d) e h = rw (add-suc k d, up_digit ys xs k d e (omega arith)) (up_low d xs h)

  -- a round of the first digit is one step of the others
  up_round : (xs : List ℤ) (K : ℕ) → after (value zero ∷ xs) ((2 * L + 1) * K) ≡ value zero ∷ after xs K
  unfolding applied
  up_round xs zero = let e : (2 * L + 1) * zero ≡ zero = omega arith in rw e
  up_round xs (suc K) =
      let e : (2 * L + 1) * suc K ≡ suc ((2 * L + 1) * K + 2 * L) = omega arith in
      rw (e, up_digit (value zero ∷ xs) (after xs K) ((2 * L + 1) * K) (2 * L) (up_round xs K) (omega arith)) (up_top (after xs K))

  -- the first i digits of a round
  round_part : (xs : List ℤ) (K i : ℕ) → i ≤ 2 * L + 1
      → map (after (value zero ∷ xs)) (below ((2 * L + 1) * K + i)) ≡ map (after (value zero ∷ xs)) (below ((2 * L + 1) * K)) ++ map (λ d. value d ∷ after xs K) (below i)
  unfolding below
  round_part xs K zero h = rw (add-zero ((2 * L + 1) * K)) (sym (append-nil _))
  round_part xs K (suc i) h =
      let N = (2 * L + 1) * K in
      let f = after (value zero ∷ xs) in
      let e : f (N + i) ≡ value i ∷ after xs K = up_digit (value zero ∷ xs) (after xs K) N i (up_round xs K) (omega arith) in
      rw (add-suc N i, map-append f (below (N + i)) ((N + i) ∷ []), round_part xs K i (omega arith), map-append (λ d. value d ∷ after xs K) (below i) (i ∷ []), e)
      (append_assoc (map f (below N)) (map (λ d. value d ∷ after xs K) (below i)) ((value i ∷ after xs K) ∷ []))

  rounds : (xs : List ℤ) (K : ℕ) → map (after (value zero ∷ xs)) (below ((2 * L + 1) * K)) ≡ flat_map (λ rest. map (λ x. x ∷ rest) (values L)) (map (after xs) (below K))
  unfolding below flat_map values
  rounds xs zero = let e : (2 * L + 1) * zero ≡ zero = omega arith in rw e
  rounds xs (suc K) =
      let e : (2 * L + 1) * suc K ≡ (2 * L + 1) * K + (2 * L + 1) = omega arith in
      rw (e, round_part xs K (2 * L + 1) (omega arith), rounds xs K, map-append (after xs) (below K) (K ∷ []), flat_map_last (λ rest. map (λ x. x ∷ rest) (values L)) (map (after xs) (below K)) (after xs K), map-map (λ x. x ∷ after xs K) value (below (2 * L + 1)))

  pub counted_steps : (n : ℕ) → counted (values L) n ≡ map (after (replicate n (value zero))) (below ((2 * L + 1) ^ n))
  unfolding counted below applied
  counted_steps zero = rw (pow-zero (2 * L + 1))
  counted_steps (suc n) = rw (counted_steps n, pow-succ' (2 * L + 1) n) (sym (rounds (replicate n (value zero)) ((2 * L + 1) ^ n)))
