-- The sums of the first n loops: how many, which stands where, that they ascend, and how the closing edges tell which loops are in a sum.
use Prim.Native.Nat.{ℕ, zero, suc, ◌+◌, ◌-◌, ◌*◌, ◌/◌, ◌%◌, ◌^◌, ◌<◌}
use mathlib.Core.List.{List, ◌++◌, map}
use mathlib.Core.Bool.{Bool, true, false, cond}
use mathlib.Core.Path.{◌≡◌, refl, sym, ap, ◌∙◌, subst}
use native.Mathlib.Nat.{pow-suc, add_comm}
use native.Mathlib.Decide.{ℕ_discrete, dec_lt}
use native.Mathlib.Numerals.{add-one}
use native.Mathlib.Omega.{arith}
use lib.Dec.{eqb}
use lib.ListN.{get_or, length, length-append, length-map, get_or-append}
use lib.Seq.{get_or-append-add}
use lib.Bits.{bit_xor, block_half, block_odd, xor_lt}
use lib.Pow.{high}
use borrow.Author.Tests.{eqb-true}
use Rattle.mathematics.specs.Bits.{bit}
use Rattle.mathematics.proofs.Bits.{bit_below, bit_shifted, bit_of_zero, bit_xor_lem, bit_above, same_below, same_bits, Top, top_less, less_top}
use Rattle.mathematics.proofs.Maps.{map_at}
use Rattle.su2_even_sets.specs.Loops.{loop_sums, sum_of_loops, closing_bits, Echelon}

-- ---- the bits of a number in two parts: b times 2 ^ n, and a below it
bit_low : (n a b j : ℕ) → j < n → bit (b * 2 ^ n + a) j ≡ bit a j
unfolding bit
bit_low zero a b j h = absurd (omega arith)
bit_low (suc n) a b zero h = block_odd b n a
bit_low (suc n) a b (suc j) h = rw (block_half b n a) (bit_low n (a / 2) b j (omega arith))

bit_high : (n a b : ℕ) → a < 2 ^ n → bit (b * 2 ^ n + a) n ≡ b % 2
bit_high n a b h = bit_shifted (b * 2 ^ n + a) n ∙ ap (λ (k : ℕ). k % 2) (high b n h)

-- ---- one loop more, as code counts
pub spanned_next : (loops : List ℕ) (n : ℕ) → loop_sums loops (n + 1) ≡ loop_sums loops n ++ map (λ x. bit_xor x (get_or loops n 0)) (loop_sums loops n)
unfolding loop_sums
spanned_next loops n = ap (loop_sums loops) (add-one n)

pub bits_next : (closing : List ℕ) (x n : ℕ) → closing_bits closing x (n + 1) ≡ closing_bits closing x n + bit x (get_or closing n 0) * 2 ^ n
unfolding closing_bits
bits_next closing x n = ap (closing_bits closing x) (add-one n)

-- ---- a sum of loops
-- what holds of the loops taken, and passes to a sum of two
pub combined_taken : (P : ℕ → Type 0) → P 0 → ((x y : ℕ) → P x → P y → P (bit_xor x y))
    → (loops : List ℕ) (n k : ℕ) → ((j : ℕ) → j < n → bit k j ≡ 1 → P (get_or loops j 0)) → P (sum_of_loops loops k n)
unfolding sum_of_loops
combined_taken P none both loops zero k h = none
combined_taken P none both loops (suc n) k h = go (eqb (bit k n) 1) refl (combined_taken P none both loops n k (λ j l. h j (omega arith)))
  where
    go : (t : Bool) → eqb (bit k n) 1 ≡ t → P (sum_of_loops loops k n) → P (cond t (bit_xor (sum_of_loops loops k n) (get_or loops n 0)) (sum_of_loops loops k n))
    go true e p = both _ _ p (h n (omega arith) (eqb-true (bit k n) 1 e))
    go false e p = p

pub combined_each : (P : ℕ → Type 0) → P 0 → ((x y : ℕ) → P x → P y → P (bit_xor x y))
    → (loops : List ℕ) (n : ℕ) → ((j : ℕ) → j < n → P (get_or loops j 0)) → (k : ℕ) → P (sum_of_loops loops k n)
combined_each P none both loops n h k = combined_taken P none both loops n k (λ j l b. h j l)

-- a bit of the sum with one loop more
bit_next : (loops : List ℕ) (k n i : ℕ) → bit (sum_of_loops loops k (suc n)) i ≡ (bit (sum_of_loops loops k n) i + bit k n * bit (get_or loops n 0) i) % 2
unfolding sum_of_loops
bit_next loops k n i = go (bit k n) (bit_below k n)
  where
    go : (b : ℕ) → b < 2
        → bit (cond (eqb b 1) (bit_xor (sum_of_loops loops k n) (get_or loops n 0)) (sum_of_loops loops k n)) i ≡ (bit (sum_of_loops loops k n) i + b * bit (get_or loops n 0) i) % 2
    go zero h = omega (arith, bit_below (sum_of_loops loops k n) i)
    go (suc zero) h = omega (arith, bit_xor_lem (sum_of_loops loops k n) (get_or loops n 0) i)
    go (suc (suc b)) h = absurd (omega arith)

-- a bit that no loop taken has
bit_clear : (loops : List ℕ) (n k i : ℕ) → ((j : ℕ) → j < n → bit k j ≡ 1 → bit (get_or loops j 0) i ≡ 0) → bit (sum_of_loops loops k n) i ≡ 0
bit_clear loops n k i h =
    combined_taken (λ x. bit x i ≡ 0) (bit_of_zero i) (λ x y p q. omega (arith, bit_xor_lem x y i)) loops n k h

-- the same loops taken
combined_same : (loops : List ℕ) (n j k : ℕ) → ((i : ℕ) → i < n → bit j i ≡ bit k i) → sum_of_loops loops j n ≡ sum_of_loops loops k n
unfolding sum_of_loops
combined_same loops zero j k h = refl
combined_same loops (suc n) j k h = rw (combined_same loops n j k (λ i l. h i (omega arith)), h n (omega arith))

pub combined_xor : (loops : List ℕ) (j k n : ℕ) → sum_of_loops loops (bit_xor j k) n ≡ bit_xor (sum_of_loops loops j n) (sum_of_loops loops k n)
unfolding sum_of_loops
combined_xor loops j k n = same_bits _ _ (λ i. at_bit n i ∙ sym (bit_xor_lem (sum_of_loops loops j n) (sum_of_loops loops k n) i))
  where
    flat : (a b : ℕ) → (a % 2 + b % 2) % 2 ≡ (a + b) % 2
    flat a b = omega arith

    taken : (p q a b l : ℕ) → p < 2 → q < 2 → ((a + b) % 2 + (p + q) % 2 * l) % 2 ≡ ((a + p * l) + (b + q * l)) % 2
    taken zero zero a b l f g = omega arith
    taken zero (suc zero) a b l f g = omega arith
    taken (suc zero) zero a b l f g = omega arith
    taken (suc zero) (suc zero) a b l f g = omega arith
    taken zero (suc (suc q)) a b l f g = absurd (omega arith)
    taken (suc zero) (suc (suc q)) a b l f g = absurd (omega arith)
    taken (suc (suc p)) q a b l f g = absurd (omega arith)

    at_bit : (n i : ℕ) → bit (sum_of_loops loops (bit_xor j k) n) i ≡ (bit (sum_of_loops loops j n) i + bit (sum_of_loops loops k n) i) % 2
    at_bit zero i = rw (bit_of_zero i)
    at_bit (suc n) i =
        rw (bit_next loops (bit_xor j k) n i, bit_next loops j n i, bit_next loops k n i, at_bit n i, bit_xor_lem j k n)
        (taken (bit j n) (bit k n) (bit (sum_of_loops loops j n) i) (bit (sum_of_loops loops k n) i) (bit (get_or loops n 0) i) (bit_below j n) (bit_below k n)
        ∙ sym (flat (bit (sum_of_loops loops j n) i + bit j n * bit (get_or loops n 0) i) (bit (sum_of_loops loops k n) i + bit k n * bit (get_or loops n 0) i)))

-- ---- the list of all sums
pub span_length : (loops : List ℕ) (n : ℕ) → length (loop_sums loops n) ≡ 2 ^ n
unfolding loop_sums
span_length loops zero = refl
span_length loops (suc n) =
    omega (
      arith,
      length-append (loop_sums loops n) (map (λ x. bit_xor x (get_or loops n 0)) (loop_sums loops n)),
      length-map (loop_sums loops n) (λ x. bit_xor x (get_or loops n 0)),
      span_length loops n,
      pow-suc 2 n,
    )

-- the sums without loop n stand in the lower half, those with it in the upper
module _ (loops : List ℕ) (n : ℕ) where
  pub span_lower : (k : ℕ) → k < 2 ^ n → get_or (loop_sums loops (suc n)) k 0 ≡ get_or (loop_sums loops n) k 0
  unfolding loop_sums
  span_lower k h =
      let l : k < length (loop_sums loops n) = omega (arith, span_length loops n) in
      get_or-append (loop_sums loops n) _ 0 k l

  pub span_upper : (k : ℕ) → k < 2 ^ n → get_or (loop_sums loops (suc n)) (2 ^ n + k) 0 ≡ bit_xor (get_or (loop_sums loops n) k 0) (get_or loops n 0)
  unfolding loop_sums
  span_upper k h =
      let l : k < length (loop_sums loops n) = omega (arith, span_length loops n) in
      rw (← span_length loops n)
      (get_or-append-add (loop_sums loops n) (map (λ x. bit_xor x (get_or loops n 0)) (loop_sums loops n)) k 0
      ∙ map_at (λ x. bit_xor x (get_or loops n 0)) 0 0 (loop_sums loops n) k l)

  pub combined_lower : (k : ℕ) → k < 2 ^ n → sum_of_loops loops k (suc n) ≡ sum_of_loops loops k n
  unfolding sum_of_loops
  combined_lower k h = rw (bit_above n k n h (omega arith))

  pub combined_upper : (k : ℕ) → k < 2 ^ n → sum_of_loops loops (2 ^ n + k) (suc n) ≡ bit_xor (sum_of_loops loops k n) (get_or loops n 0)
  unfolding sum_of_loops
  combined_upper k h =
      let e : 1 * 2 ^ n + k ≡ 2 ^ n + k = omega arith in
      let P : ℕ → Type 0 = λ x. sum_of_loops loops x (suc n) ≡ bit_xor (sum_of_loops loops k n) (get_or loops n 0) in
      subst P e (rw (bit_high n k 1 h, combined_same loops n (1 * 2 ^ n + k) k (bit_low n k 1)))

-- sum number k stands at place k
pub span_at : (loops : List ℕ) (n k : ℕ) → k < 2 ^ n → get_or (loop_sums loops n) k 0 ≡ sum_of_loops loops k n
unfolding loop_sums sum_of_loops
span_at loops zero k h = let e : k ≡ 0 = omega arith in rw e
span_at loops (suc n) k h = go (span_at loops n) (dec_lt k (2 ^ n))
  where
    go : ((i : ℕ) → i < 2 ^ n → get_or (loop_sums loops n) i 0 ≡ sum_of_loops loops i n) → Dec (k < 2 ^ n) → get_or (loop_sums loops (suc n)) k 0 ≡ sum_of_loops loops k (suc n)
    go ih (yes low) = span_lower loops n k low ∙ ih k low ∙ sym (combined_lower loops n k low)
    go ih (no low) =
        let i = k - 2 ^ n in
        let e : k ≡ 2 ^ n + i = omega arith in
        let l : i < 2 ^ n = omega (arith, pow-suc 2 n) in
        let P : ℕ → Type 0 = λ x. get_or (loop_sums loops (suc n)) x 0 ≡ sum_of_loops loops x (suc n) in
        subst P (sym e) (span_upper loops n i l ∙ ap (λ (x : ℕ). bit_xor x (get_or loops n 0)) (ih i l) ∙ sym (combined_upper loops n i l))

-- ---- the bits at the closing edges
pub bits_below : (closing : List ℕ) (x n : ℕ) → closing_bits closing x n < 2 ^ n
unfolding closing_bits
bits_below closing x zero = omega arith
bits_below closing x (suc n) = go (bit x (get_or closing n 0)) (bit_below x (get_or closing n 0)) (bits_below closing x n)
  where
    go : (b : ℕ) → b < 2 → closing_bits closing x n < 2 ^ n → closing_bits closing x n + b * 2 ^ n < 2 ^ suc n
    go zero l h = omega (arith, pow-suc 2 n)
    go (suc zero) l h = omega (arith, pow-suc 2 n)
    go (suc (suc b)) l h = absurd (omega arith)

pub bits_at : (closing : List ℕ) (x n j : ℕ) → j < n → bit (closing_bits closing x n) j ≡ bit x (get_or closing j 0)
unfolding closing_bits
bits_at closing x zero j h = absurd (omega arith)
bits_at closing x (suc n) j h = rw (add_comm (closing_bits closing x n)) (go (ℕ_discrete j n) (bits_at closing x n j))
  where
    b : ℕ
    b = bit x (get_or closing n 0)

    go : Dec (j ≡ n) → (j < n → bit (closing_bits closing x n) j ≡ bit x (get_or closing j 0)) → bit (b * 2 ^ n + closing_bits closing x n) j ≡ bit x (get_or closing j 0)
    go (yes e) ih = rw e (bit_high n (closing_bits closing x n) b (bits_below closing x n) ∙ omega (arith, bit_below x (get_or closing n 0)))
    go (no e) ih = bit_low n (closing_bits closing x n) b j (omega arith) ∙ ih (omega arith)

pub bits_xor : (closing : List ℕ) (x y n : ℕ) → closing_bits closing (bit_xor x y) n ≡ bit_xor (closing_bits closing x n) (closing_bits closing y n)
bits_xor closing x y n =
    same_below n _ _ (bits_below closing (bit_xor x y) n) (xor_lt n _ _ (bits_below closing x n) (bits_below closing y n))
    (λ j h. rw (bits_at closing (bit_xor x y) n j h, bit_xor_lem x y (get_or closing j 0), bit_xor_lem (closing_bits closing x n) (closing_bits closing y n) j, bits_at closing x n j h, bits_at closing y n j h))

-- ---- loops that the closing edges tell apart
echelon_less : {n : ℕ} {closing loops : List ℕ} → Echelon (suc n) closing loops → Echelon n closing loops
echelon_less e =
    record {
      rising = λ i j h l. e.rising i j h (omega arith);
      own = λ j l. e.own j (omega arith);
      others = λ i j k l d. e.others i j (omega arith) (omega arith) d;
      top = λ j l. e.top j (omega arith);
    }

-- the closing edge of a loop is in the sum exactly if the loop is taken
pub combined_bit : {n : ℕ} {closing loops : List ℕ} → Echelon n closing loops → (k j : ℕ) → j < n → bit (sum_of_loops loops k n) (get_or closing j 0) ≡ bit k j
combined_bit {n = zero} e k j h = absurd (omega arith)
combined_bit {n = suc n} {closing} {loops} e k j h = bit_next loops k n (get_or closing j 0) ∙ go (combined_bit (echelon_less e) k j) (ℕ_discrete j n)
  where
    go : (j < n → bit (sum_of_loops loops k n) (get_or closing j 0) ≡ bit k j) → Dec (j ≡ n)
        → (bit (sum_of_loops loops k n) (get_or closing j 0) + bit k n * bit (get_or loops n 0) (get_or closing j 0)) % 2 ≡ bit k j
    go ih (yes is) =
        let none : bit (sum_of_loops loops k n) (get_or closing n 0) ≡ 0 =
        bit_clear loops n k (get_or closing n 0) (λ i l b. e.others n i (omega arith) (omega arith) (λ q. omega arith)) in
        rw (is, none, e.own n (omega arith)) (omega (arith, bit_below k n))
    go ih (no is) = rw (ih (omega arith), e.others j n h (omega arith) is) (omega (arith, bit_below k j))

-- so the closing edges spell the number of the sum
pub combined_reads : {n : ℕ} {closing loops : List ℕ} → Echelon n closing loops → (k : ℕ) → k < 2 ^ n → closing_bits closing (sum_of_loops loops k n) n ≡ k
combined_reads {n} {closing} {loops} e k h =
    same_below n _ _ (bits_below closing (sum_of_loops loops k n) n) h
    (λ j l. bits_at closing (sum_of_loops loops k n) n j l ∙ combined_bit e k j l)

-- where d is the highest loop that only one of two sums takes, they differ highest at its closing edge
pub combined_top : {n : ℕ} {closing loops : List ℕ} → Echelon n closing loops → (j k d : ℕ) → d < n → Top j k d → Top (sum_of_loops loops j n) (sum_of_loops loops k n) (get_or closing d 0)
combined_top {n} {closing} {loops} e j k d l t =
    record { off = combined_bit e j d l ∙ t.off; on = combined_bit e k d l ∙ t.on; above = same_above }
  where
    -- a loop that only one of them takes has no bit there
    clear : (i m : ℕ) → get_or closing d 0 < i → m < n → bit (bit_xor j k) m ≡ 1 → Dec (m ≡ d) → Dec (m < d) → bit (get_or loops m 0) i ≡ 0
    clear i m h g b (yes is) q = e.top m g i (rw is h)
    clear i m h g b (no is) (yes q) = e.top m g i (omega (arith, e.rising m d q l))
    clear i m h g b (no is) (no q) = absurd (omega (arith, bit_xor_lem j k m, t.above m (omega arith)))

    same_above : (i : ℕ) → get_or closing d 0 < i → bit (sum_of_loops loops j n) i ≡ bit (sum_of_loops loops k n) i
    same_above i h =
        let none : bit (bit_xor (sum_of_loops loops j n) (sum_of_loops loops k n)) i ≡ 0 =
        rw (← combined_xor loops j k n) (bit_clear loops n (bit_xor j k) i (λ m g b. clear i m h g b (ℕ_discrete m d) (dec_lt m d))) in
        omega (arith, bit_xor_lem (sum_of_loops loops j n) (sum_of_loops loops k n) i, bit_below (sum_of_loops loops j n) i, bit_below (sum_of_loops loops k n) i)

pub combined_rising : {n : ℕ} {closing loops : List ℕ} → Echelon n closing loops → (j k : ℕ) → j < k → k < 2 ^ n → sum_of_loops loops j n < sum_of_loops loops k n
combined_rising {n} {closing} {loops} e j k h l =
    let t = less_top n j k l h in
    top_less (sum_of_loops loops j n) (sum_of_loops loops k n) (get_or closing t.0 0) (combined_top e j k t.0 t.1 t.2)

pub span_rising : {n : ℕ} {closing loops : List ℕ} → Echelon n closing loops → (i j : ℕ) → i < j → j < 2 ^ n → get_or (loop_sums loops n) i 0 < get_or (loop_sums loops n) j 0
span_rising {n} {closing} {loops} e i j h l = rw (span_at loops n i (omega arith), span_at loops n j l) (combined_rising e i j h l)
