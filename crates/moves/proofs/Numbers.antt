-- The numbers of states rise with them, and a triangle's move changes each by the same number.
use Prim.Native.Nat.{ℕ, zero, suc, ◌+◌, ◌*◌, ◌^◌, ◌<◌, ◌≤◌}
use mathlib.Core.List.{List, []}
use mathlib.Core.Bool.{Bool, true, false, cond, false≢true}
use mathlib.Core.Path.{◌≡◌, refl, sym, ap, ◌∙◌}
use native.Mathlib.Omega.{arith}
use native.Mathlib.Nat.{pow-zero, pow-suc, mul-le-mul_right}
use lib.Dec.{eqb}
use lib.IntN.{ℤ, pos, negsuc, nat_abs, neg_ℤ, ◌+ℤ◌, +ℤ_idl}
use lib.Signed.{lt_z}
use lib.ListN.{get_or, length}
use Rattle.mathematics.proofs.Integers.{positive, negative, one_part, parts_sum, parts_size, test_less, test_not_less}
use Rattle.mathematics.proofs.Ordered.{each_at}
use Rattle.complex.specs.Complex.{Complex}
use Rattle.complex.specs.Judge.{Accepted}
use Rattle.complex.specs.Sides.{side}
use Rattle.gauss_law.specs.Listing.{free_edges, states, limit}
use Rattle.gauss_law.specs.Shifts.{triangle_move}
use Rattle.gauss_law.proofs.Free.{free_below}
use Rattle.gauss_law.proofs.Accepted.{free_count, listing_complete}
use Rattle.gauss_law.proofs.Shifts.{added, triangle_value}
use Rattle.hilbert.specs.Basis.{decided, smaller, comes_before}
use Rattle.hilbert.proofs.Order.{smaller_agree, before_smaller}
use Rattle.plaquettes.specs.Triangle.{moved_state, sides_within, target}
use Rattle.plaquettes.proofs.TriangleTelling.{state_there}
use Rattle.plaquettes.proofs.Moves.{stays_at, target_stays, target_back}
use Rattle.moves.specs.Numbers.{numeral, digit, number}
use Rattle.moves.specs.Moves.{zeros, rest_number, shift_number}
use Rattle.moves.proofs.Zeros.{zeros_long, zeros_all}

-- ---- numbers by their digits
module _ (base : ℕ) (x : ℕ → ℕ) where
  -- what stands before n digits counts base ^ n
  numeral_front : (n a : ℕ) → numeral base x n a ≡ a * base ^ n + numeral base x n 0
  unfolding numeral
  numeral_front zero a = rw (pow-zero base) (omega arith)
  numeral_front (suc n) a = rw (numeral_front n (a * base + x n), numeral_front n (0 * base + x n), pow-suc base n) (omega arith)

  numeral_more : (n : ℕ) → numeral base x (suc n) 0 ≡ x n * base ^ n + numeral base x n 0
  unfolding numeral
  numeral_more n = rw (numeral_front n (0 * base + x n)) (omega arith)

  pub numeral_below : (n : ℕ) → ((j : ℕ) → j < n → x j < base) → numeral base x n 0 < base ^ n
  unfolding numeral
  numeral_below zero h = rw (pow-zero base) (omega arith)
  numeral_below (suc n) h =
      let last : (x n + 1) * base ^ n ≤ base * base ^ n = mul-le-mul_right (base ^ n) (omega (arith, h n (omega arith))) in
      omega (arith, pow-suc base n, numeral_more n, numeral_below n (λ j k. h j (omega arith)))

-- with base 1 digits are added
numeral_ones : (x : ℕ → ℕ) (n a : ℕ) → ((j : ℕ) → x j ≤ 2) → numeral 1 x n a ≤ a + 2 * n
unfolding numeral
numeral_ones x zero a h = omega arith
numeral_ones x (suc n) a h = omega (arith, h n, numeral_ones x n (a * 1 + x n) h)

-- numbers add as their digits do
numeral_sum : (base : ℕ) (x y x' y' : ℕ → ℕ) (n : ℕ) → ((j : ℕ) → j < n → x j + y j ≡ x' j + y' j)
    → numeral base x n 0 + numeral base y n 0 ≡ numeral base x' n 0 + numeral base y' n 0
unfolding numeral
numeral_sum base x y x' y' zero h = refl
numeral_sum base x y x' y' (suc n) h =
    let last : (x n + y n) * base ^ n ≡ (x' n + y' n) * base ^ n = ap (λ d. d * base ^ n) (h n (omega arith)) in
    let rest = numeral_sum base x y x' y' n (λ j k. h j (omega arith)) in
    rw (numeral_more base x n, numeral_more base y n, numeral_more base x' n, numeral_more base y' n) (omega arith)

-- ---- digits of values
-- a value with low added is no longer negative
digit_parts : (low : ℕ) (x : ℤ) → nat_abs x ≤ low → nat_abs (x +ℤ pos low) + negative x ≡ positive x + low
unfolding positive negative
digit_parts low x h =
    omega (arith, parts_size x, parts_size (x +ℤ pos low), parts_sum x (pos low), one_part x, one_part (x +ℤ pos low))

-- digits x and y before the numbers p and q: the smaller digit decides, and between equal ones the rest
decided_number : (L : ℕ) (x y : ℤ) (b : Bool) (W p q : ℕ) → nat_abs x ≤ L → nat_abs y ≤ L → p < W → (b ≡ true → p < q)
    → decided b x y ≡ true → nat_abs (x +ℤ pos L) * W + p < nat_abs (y +ℤ pos L) * W + q
unfolding decided
decided_number L x y b W p q small small' below rest = go (lt_z x y) refl (lt_z y x) refl
  where
    go : (r : Bool) → lt_z x y ≡ r → (o : Bool) → lt_z y x ≡ o → cond r true (cond o false b) ≡ true → nat_abs (x +ℤ pos L) * W + p < nat_abs (y +ℤ pos L) * W + q
    go true e o f h =
        let less : nat_abs (x +ℤ pos L) < nat_abs (y +ℤ pos L) = omega (arith, digit_parts L x small, digit_parts L y small', test_less x y e) in
        let more : (nat_abs (x +ℤ pos L) + 1) * W ≤ nat_abs (y +ℤ pos L) * W = mul-le-mul_right W (omega arith) in
        omega arith
    go false e true f h = absurd (false≢true h)
    go false e false f h =
        let other = test_not_less y x f in
        let same : nat_abs (x +ℤ pos L) ≡ nat_abs (y +ℤ pos L) = omega (arith, digit_parts L x small, digit_parts L y small', test_not_less x y e) in
        rw same (omega (arith, rest h))

-- the values on the first n free edges are within -L to L
abbrev Small : ℕ → List ℕ → ℕ → List ℤ → Type 0
Small L free n s = (j : ℕ) → j < n → nat_abs (get_or s (get_or free j 0) (pos 0)) ≤ L

number_below : (L : ℕ) (free : List ℕ) (n : ℕ) (s : List ℤ) → Small L free n s → number L L free n s < (2 * L + 1) ^ n
unfolding number digit
number_below L free n s small =
    numeral_below (2 * L + 1) (digit L free s) n
    (λ j h. let x = get_or s (get_or free j 0) (pos 0) in let size = small j h in omega (arith, digit_parts L x size, parts_size x))

-- the order of the basis is that of the numbers
pub number_smaller : (L : ℕ) (free : List ℕ) (s t : List ℤ) (n : ℕ) → Small L free n s → Small L free n t
    → smaller free s t n ≡ true → number L L free n s < number L L free n t
unfolding number digit smaller
number_smaller L free s t zero small small' h = absurd (false≢true h)
number_smaller L free s t (suc n) small small' h =
    rw (numeral_more (2 * L + 1) (digit L free s) n, numeral_more (2 * L + 1) (digit L free t) n)
    (decided_number L _ _ (smaller free s t n) ((2 * L + 1) ^ n) (number L L free n s) (number L L free n t) (small n (omega arith)) (small' n (omega arith))
    (number_below L free n s (λ j k. small j (omega arith)))
    (number_smaller L free s t n (λ j k. small j (omega arith)) (λ j k. small' j (omega arith)))
    h)

-- ---- what a move adds
pub added_small : (c : Complex) (t e : ℕ) → nat_abs (added c t (pos 1) e) ≤ 1
unfolding added
added_small c t e = go (eqb e (side c t 0)) (eqb e (side c t 1)) (eqb e (side c t 2))
  where
    go : (a b d : Bool) → nat_abs (cond a (pos 1) (cond b (neg_ℤ (pos 1)) (cond d (pos 1) (pos 0)))) ≤ 1
    go true b d = omega arith
    go false true d = omega arith
    go false false true = omega arith
    go false false false = omega arith

-- adding a changes the digit of x as it changes that of 0
digit_moved : (L : ℕ) (x a : ℤ) → nat_abs x ≤ L → nat_abs (x +ℤ a) ≤ L → nat_abs a ≤ 1 → nat_abs (x +ℤ a +ℤ pos L) + 1 ≡ nat_abs (x +ℤ pos L) + nat_abs (a +ℤ pos 1)
digit_moved L x a small small' one =
    omega (arith, digit_parts L x small, digit_parts L (x +ℤ a) small', digit_parts 1 a one, parts_sum x a)

module _ (c : Complex) (accepted : Accepted c) (L : ℕ) (free : List ℕ) (listed : (j : ℕ) → j < length (free_edges c) → get_or free j 0 ≡ get_or (free_edges c) j 0) where
  abbrev F : ℕ
  F = length (free_edges c)

  abbrev numbered : ℕ → ℕ
  numbered i = number L L free F (get_or (states c L) i [])

  state_small : (i : ℕ) → i < length (states c L) → Small L free F (get_or (states c L) i [])
  state_small i h j k = rw (listed j k) ((state_there c accepted L i h).within (get_or (free_edges c) j 0) (each_at 0 (free_below c) j k))

  pub number_rises : (i k : ℕ) → i < k → k < length (states c L) → numbered i < numbered k
  unfolding states comes_before
  number_rises i k less h =
      let s = get_or (states c L) i [] in
      let t = get_or (states c L) k [] in
      number_smaller L free s t F (state_small i (omega arith)) (state_small k h)
      (smaller_agree free (free_edges c) s t F listed ∙ (before_smaller c s t ((listing_complete c accepted c.charges L).ordered i k less h)).0)

  pub number_few : (2 * L + 1) ^ F ≤ limit → (i : ℕ) → i < length (states c L) → numbered i < limit
  number_few few i h = omega (arith, number_below L free F (get_or (states c L) i []) (state_small i h))

  -- a number whose digits are at most 2
  small_few : (x : ℕ → ℕ) → ((j : ℕ) → x j ≤ 2) → (2 * L + 1) ^ F ≤ limit → numeral (2 * L + 1) x F 0 ≤ limit
  small_few x h few = go L few
    where
      short : 2 * F ≤ 126
      short = omega (arith, free_count c accepted, accepted.few_edges, accepted.some_vertex)

      go : (L : ℕ) → (2 * L + 1) ^ F ≤ limit → numeral (2 * L + 1) x F 0 ≤ limit
      go zero few = omega (arith, short, numeral_ones x F 0 h)
      go (suc L) few = omega (arith, few, numeral_below (2 * suc L + 1) x F (λ j k. omega (arith, h j)))

  -- ---- no shift, and the shift of a triangle
  abbrev z : List ℤ
  z = zeros (length c.edges)

  none_there : (e : ℕ) → get_or z e (pos 0) ≡ pos 0
  none_there = zeros_all (length c.edges)

  pub rest_few : (2 * L + 1) ^ F ≤ limit → rest_number c L free ≤ limit
  unfolding rest_number number digit
  rest_few = small_few (digit 1 free z) (λ j. rw (none_there (get_or free j 0)) (omega arith))

  module _ (t : ℕ) (triangle : t < length c.triangles) where
    -- what the move adds on free edge j
    abbrev change : ℕ → ℤ
    change j = added c t (pos 1) (get_or free j 0)

    change_digit : (j : ℕ) → digit 1 free (triangle_move c t (pos 1) z) j ≡ nat_abs (change j +ℤ pos 1)
    unfolding digit
    change_digit j = rw (triangle_value c accepted t triangle (pos 1) z (zeros_long (length c.edges)) (get_or free j 0), none_there (get_or free j 0), +ℤ_idl (change j))

    change_small : (j : ℕ) → digit 1 free (triangle_move c t (pos 1) z) j ≤ 2
    change_small j = let one = added_small c t (get_or free j 0) in omega (arith, change_digit j, digit_parts 1 (change j) one, parts_size (change j))

    forward_digit : (i : ℕ) → i < length (states c L) → sides_within c L t (moved_state c L t (pos 1) i) ≡ true → (j : ℕ) → j < F
        → digit L free (get_or (states c L) (target c L t (pos 1) i) []) j + digit 1 free z j
        ≡ digit L free (get_or (states c L) i []) j + digit 1 free (triangle_move c t (pos 1) z) j
    unfolding digit moved_state
    forward_digit i h stays j k =
        let e = get_or free j 0 in
        let s = get_or (states c L) i [] in
        let x = get_or s e (pos 0) in
        let there = stays_at c accepted L t triangle (pos 1) i h stays in
        let value = triangle_value c accepted t triangle (pos 1) s (state_there c accepted L i h).sized e in
        let moved : get_or (get_or (states c L) (target c L t (pos 1) i) []) e (pos 0) ≡ x +ℤ change j = ap (λ y. get_or y e (pos 0)) there.state ∙ value in
        rw (change_digit j, moved, none_there e)
        (digit_moved L x (change j) (state_small i h j k) (rw moved at (state_small (target c L t (pos 1) i) there.below j k)) (added_small c t e))

    pub forward_number : (i : ℕ) → i < length (states c L) → sides_within c L t (moved_state c L t (pos 1) i) ≡ true
        → numbered (target c L t (pos 1) i) + rest_number c L free ≡ numbered i + shift_number c L free t
    unfolding number rest_number shift_number
    forward_number i h stays = numeral_sum (2 * L + 1) _ (digit 1 free z) _ (digit 1 free (triangle_move c t (pos 1) z)) F (forward_digit i h stays)

    -- the move by 1 leads back from the target of the move by -1
    pub back_number : (i : ℕ) → i < length (states c L) → sides_within c L t (moved_state c L t (negsuc 0) i) ≡ true
        → numbered (target c L t (negsuc 0) i) + shift_number c L free t ≡ numbered i + rest_number c L free
    back_number i h stays =
        let j = target c L t (negsuc 0) i in
        let below : j < length (states c L) = (stays_at c accepted L t triangle (negsuc 0) i h stays).below in
        let back : target c L t (pos 1) j ≡ i = target_back c accepted L t triangle (negsuc 0) i j h below refl in
        sym (rw back at (forward_number j below (target_stays c L t (pos 1) j (rw back h))))

  pub shift_few : (2 * L + 1) ^ F ≤ limit → (t : ℕ) → t < length c.triangles → shift_number c L free t ≤ limit
  unfolding shift_number number
  shift_few few t triangle = small_few (digit 1 free (triangle_move c t (pos 1) z)) (change_small t triangle) few
