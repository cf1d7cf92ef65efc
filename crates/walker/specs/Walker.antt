-- The steps of the walk over all states: a counter over the free edges, whose digits are the values of one lawful assignment.
use Rattle.std.specs.Prelude.{ℕ, zero, suc, ◌+◌, ◌-◌, ◌*◌, min, max, cond, leb, ℤ, pos, ◌-ℤ◌, ◌*ℤ◌, neg_ℤ, nat_abs, get_or, length}
use mathlib.Core.List.{List, map, flat_map}
use Rattle.std.specs.Int.Signed.{lt_z}
use Rattle.mathematics.specs.Integers.{equal}
use Rattle.mathematics.specs.Counting.{below, applied}
use Rattle.cycles.specs.Cycles.{with_cycle}

-- One step of a counter with digits from -L to L, of which n are looked at from number j on: the first that is below L goes up by one,
-- and those before it go from L back to -L.
module _ {A : Type 0} (digit : A → ℕ → ℤ) (move : A → ℤ → ℕ → A) (L : ℕ) where
  unfoldable pub counted_up : ℕ → ℕ → A → A
  counted_up zero j s = s
  counted_up (suc n) j s = cond (lt_z (digit s j) (pos L)) (move s (pos 1) j) (counted_up n (suc j) (move s (neg_ℤ (pos (2 * L))) j))

-- the step of an assignment: its digits are the values on the free edges, and a digit is moved by the cycle of its edge
unfoldable pub stepped : List ℕ → (ℕ → List ℤ) → ℕ → ℕ → ℕ → List ℤ → List ℤ
stepped free cycle L n j s = counted_up (λ s j. get_or s (get_or free j 0) (pos 0)) (λ s t j. with_cycle s t (cycle j)) L n j s

-- to p each of the first n cycles is added, the j-th one x j times
unfoldable pub sum_of_cycles : (ℕ → List ℤ) → (ℕ → ℤ) → List ℤ → ℕ → List ℤ
sum_of_cycles cycle x p zero = p
sum_of_cycles cycle x p (suc n) = with_cycle (sum_of_cycles cycle x p n) (x n) (cycle n)

-- from an assignment with 0 on each of n free edges to the candidate with -L on each
unfoldable pub lowest_candidate : (ℕ → List ℤ) → ℕ → List ℤ → ℕ → List ℤ
lowest_candidate cycle L p n = sum_of_cycles cycle (λ j. neg_ℤ (pos L)) p n

-- how far a is above b, 0 where it is not
unfoldable pub excess : ℤ → ℤ → ℕ
excess a b = cond (lt_z b a) (nat_abs (a -ℤ b)) 0

-- Of x, x + s, x + 2 s, .., n of them, where s is -1, 0 or 1: the number of the first within -L to L, and one more than that of the last.
unfoldable pub entry_start : ℕ → ℕ → ℤ → ℤ → ℕ
entry_start L n x s = cond (equal s (pos 0)) (cond (leb (nat_abs x) L) 0 n) (excess (neg_ℤ (pos L)) (s *ℤ x))

unfoldable pub entry_stop : ℕ → ℕ → ℤ → ℤ → ℕ
entry_stop L n x s = cond (equal s (pos 0)) n (excess (pos (suc L)) (s *ℤ x))

-- the same of s, s + z, s + 2 z, .., by the first m entries
unfoldable pub first_within : ℕ → ℕ → List ℤ → List ℤ → ℕ → ℕ
first_within L n s z zero = 0
first_within L n s z (suc m) = max (first_within L n s z m) (entry_start L n (get_or s m (pos 0)) (get_or z m (pos 0)))

unfoldable pub end_within : ℕ → ℕ → List ℤ → List ℤ → ℕ → ℕ
end_within L n s z zero = n
end_within L n s z (suc m) = min (end_within L n s z m) (entry_stop L n (get_or s m (pos 0)) (get_or z m (pos 0)))

-- those of them with the numbers from one to before another
unfoldable pub block_rows : List ℤ → List ℤ → ℕ → ℕ → List (List ℤ)
block_rows s z from to = map (λ i. with_cycle s (pos (from + i)) z) (below (to - from))

-- those of them that are within -L to L in every entry
unfoldable pub block : ℕ → ℕ → List ℤ → List ℤ → List (List ℤ)
block L n s z = block_rows s z (first_within L n s z (length s)) (end_within L n s z (length s))

-- the number of candidates in a block, of n free edges
unfoldable pub width : ℕ → ℕ → ℕ
width L zero = 1
width L (suc n) = 2 * L + 1

-- s after k steps of all n free edges but the first
unfoldable pub walked : List ℕ → (ℕ → List ℤ) → ℕ → ℕ → List ℤ → ℕ → List ℤ
walked free cycle L n s k = applied (stepped free cycle L (n - 1) 1) k s

-- the states of the first k blocks
unfoldable pub walked_states : List ℕ → (ℕ → List ℤ) → ℕ → ℕ → List ℤ → ℕ → List (List ℤ)
walked_states free cycle L n s k = flat_map (λ i. block L (width L n) (walked free cycle L n s i) (cycle 0)) (below k)
