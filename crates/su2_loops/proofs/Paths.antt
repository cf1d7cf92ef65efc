-- Which edges of a path are in its mask: those that it names or, by passes, those that it passes an odd number of times.
use Prim.Native.Nat.{ℕ, zero, suc, ◌+◌, ◌*◌, ◌<◌, ◌/◌, ◌%◌, ◌^◌, ◌≤◌, max}
use mathlib.Core.List.{List, [], ◌∷◌, ◌++◌}
use mathlib.Core.Bool.{Bool, true, false, ◌||◌, cond}
use mathlib.Core.Path.{◌≡◌, refl, ap, ◌∙◌}
use native.Mathlib.Decide.{ℕ_discrete}
use native.Mathlib.Omega.{arith}
use borrow.Author.Tests.{eq-eqb, ne_eqb}
use lib.Bits.{bit_or, bit_xor, or_step}
use lib.Dec.{eqb}
use lib.ListN.{get_or, length, take, length-append}
use lib.Pow.{pow_mono}
use native.Mathlib.Nat.{lt_of_le_of_lt}
use Rattle.std.proofs.lemmas.Fn.{FoldsTo-push, chained_keeps}
use Rattle.mathematics.specs.Bits.{bit}
use Rattle.mathematics.specs.Counting.{keep}
use Rattle.mathematics.specs.Lists.{listed}
use Rattle.mathematics.proofs.Front.{take_next}
use Rattle.mathematics.proofs.Lists.{listed_last}
use Rattle.mathematics.proofs.Below.{keep_append}
use Rattle.mathematics.proofs.Bits.{power_shifted, bit_of_zero, bit_power, bit_power_other, bit_xor_lem}
use Rattle.su2_even_sets.specs.EvenSets.{chosen}
use Rattle.su2_loops.specs.Loop.{names, passes, passes_oddly, EdgePut, MaskMade, Counts}

-- ---- bit by bit
or_half : (x y : ℕ) → bit_or x y / 2 ≡ bit_or (x / 2) (y / 2)
or_half x y = omega (arith, or_step x y)

or_last : (x y : ℕ) → bit_or x y % 2 ≡ max (x % 2) (y % 2)
or_last x y = omega (arith, or_step x y)

bit_or_lem : (x y i : ℕ) → bit (bit_or x y) i ≡ max (bit x i) (bit y i)
unfolding bit
bit_or_lem x y zero = or_last x y
bit_or_lem x y (suc i) = rw (or_half x y) (bit_or_lem (x / 2) (y / 2) i)

power_bit : (a e : ℕ) → bit (2 ^ a) e ≡ cond (eqb e a) 1 0
power_bit a e = go (ℕ_discrete e a)
  where
    go : Dec (e ≡ a) → bit (2 ^ a) e ≡ cond (eqb e a) 1 0
    go (yes p) = rw (eq-eqb e a p) (ap (bit (2 ^ a)) p ∙ bit_power a)
    go (no p) = rw (ne_eqb e a p) (bit_power_other a e p)

-- ---- one edge more
power_below : (a : ℕ) → a < 64 → 2 ^ a < 2 ^ 64
power_below a h = let low : a ≤ 63 = omega arith in lt_of_le_of_lt (pow_mono low) (omega arith)

either : (p q : Bool) → max (cond p 1 0) (cond q 1 0) ≡ cond (p || q) 1 0
either true true = refl
either true false = refl
either false true = refl
either false false = refl

is_one : (b : Bool) → eqb (cond b 1 0) 1 ≡ b
is_one true = refl
is_one false = refl

pub passes_append : (l m : List ℕ) (e : ℕ) → passes (l ++ m) e ≡ passes l e + passes m e
unfolding passes
passes_append l m e = ap length (keep_append (eqb e) l m) ∙ length-append (keep (eqb e) l) (keep (eqb e) m)

passes_one : (x e : ℕ) → passes (x ∷ []) e ≡ cond (eqb e x) 1 0
unfolding passes keep
passes_one x e = go (eqb e x)
  where
    go : (b : Bool) → length (cond b (x ∷ []) []) ≡ cond b 1 0
    go true = refl
    go false = refl

-- ---- the mask of a path
-- one step more
pub put_more : (puts : ℕ → ℕ → ℕ → Type 0) (path : List ℕ) (k mask next : ℕ) → k < length path → get_or path k 0 < 64 → mask < 2 ^ 64 → MaskMade puts (take k path) mask → puts mask (1 * 2 ^ get_or path k 0 % 2 ^ 64) next
    → MaskMade puts (take (k + 1) path) next
put_more puts path k mask next inside low small made put =
    rw (take_next path k 0 inside) (FoldsTo-push (EdgePut puts) 0 (take k path) mask (get_or path k 0) next made (small, low, rw (power_shifted (get_or path k 0) low) at put))

module _ {puts : ℕ → ℕ → ℕ → Type 0} (path : List ℕ) where
  -- where an edge is put by or, the edges that the path names
  module _ (by_or : (m e next : ℕ) → m < 2 ^ 64 → e < 2 ^ 64 → puts m e next → next ≡ bit_or m e) where
    named_step : (e : ℕ) (l : List ℕ) (m a next : ℕ) → bit m e ≡ cond (listed eqb e l) 1 0 → EdgePut puts m a next → bit next e ≡ cond (listed eqb e (l ++ (a ∷ []))) 1 0
    named_step e l m a next so_far put =
        rw (by_or m (2 ^ a) next put.0 (power_below a put.1) put.2, bit_or_lem m (2 ^ a) e, so_far, power_bit a e, either (listed eqb e l) (eqb e a), listed_last eqb e l a) refl

    pub named_count : Counts puts path (names path)
    unfolding chosen names listed
    named_count =
        record {
          counted = λ mask made i e.
              (ap (λ (b : ℕ). eqb b 1) (chained_keeps (EdgePut puts) (λ l m. bit m e ≡ cond (listed eqb e l) 1 0) (λ l m a next. named_step e l m a next) path 0 mask (bit_of_zero e) made) ∙ is_one (listed eqb e path)) i;
        }

  -- where it is put by xor, those that it passes an odd number of times
  module _ (by_xor : (m e next : ℕ) → m < 2 ^ 64 → e < 2 ^ 64 → puts m e next → next ≡ bit_xor m e) where
    passed_step : (e : ℕ) (l : List ℕ) (m a next : ℕ) → bit m e ≡ passes l e % 2 → EdgePut puts m a next → bit next e ≡ passes (l ++ (a ∷ [])) e % 2
    passed_step e l m a next so_far put =
        let is = by_xor m (2 ^ a) next put.0 (power_below a put.1) put.2 in
        rw is (omega (arith, bit_xor_lem m (2 ^ a) e, so_far, power_bit a e, passes_append l (a ∷ []) e, passes_one a e))

    pub passed_count : Counts puts path (passes_oddly path)
    unfolding chosen passes_oddly passes keep
    passed_count =
        record {
          counted = λ mask made i e.
              ap (λ (b : ℕ). eqb b 1) (chained_keeps (EdgePut puts) (λ l m. bit m e ≡ passes l e % 2) (λ l m a next. passed_step e l m a next) path 0 mask (bit_of_zero e) made) i;
        }
