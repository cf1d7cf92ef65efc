-- A run: the blocks that agree on all free edges but the first two.
use Rattle.std.specs.Prelude.{ℕ, ◌+◌, ◌-◌, ◌^◌, ◌<◌, ◌≤◌, true, ◌≡◌, ℤ, pos, nat_abs, ◌+ℤ◌, ◌*ℤ◌, get_or, length}
use mathlib.Core.List.{List, flat_map}
use Rattle.mathematics.specs.Integers.{equal}
use Rattle.mathematics.specs.Counting.{below}
use Rattle.cycles.specs.Cycles.{with_cycle}
use Rattle.walker.specs.declared.blocks.Span.{Span}
use Rattle.walker.specs.Walker.{block}
use Rattle.walker.specs.Steps.{Small}

-- the lists with the numbers from one to before another, joined
unfoldable pub between : {A : Type 0} → (ℕ → List A) → ℕ → ℕ → List A
between f from to = flat_map (λ i. f (from + i)) (below (to - from))

-- the states of a run's blocks with the numbers from one to before another: the block with number i is along the first cycle z, from s with
-- the second cycle y added i times
abbrev pub run_states : ℕ → ℕ → List ℤ → List ℤ → List ℤ → ℕ → ℕ → List (List ℤ)
run_states L n s z y from to = between (λ i. block L n (with_cycle s (pos i) y) z) from to

-- what the code asks of k blocks of a run: sizes of the cycles and of the values
pub record RunFit (L n : ℕ) (s z y : List ℤ) (k : ℕ) : Type 0 where
  pub edges_few : length s ≤ 63
  pub truncation : L ≤ 1000
  pub wide : n ≤ 2001
  pub few : k ≤ 2 ^ 20
  pub first_long : length z ≡ length s
  pub second_long : length y ≡ length s
  pub first_signs : Small 1 z
  pub second_signs : Small 1 y
  pub start : Small (2 ^ 20) s
  pub values : (i : ℕ) → i < k → Small (2 ^ 20) (with_cycle s (pos i) y)

-- The listed values stay within -L to L where the second cycle is added i times: those on the edges that neither of the first two cycles
-- moves, and those on the edges that the second alone moves.
pub record Staying (L : ℕ) (s y : List ℤ) (still : List ℕ) (a : ℕ) (side : List ℕ) (b i : ℕ) : Type 0 where
  pub still_within : (q : ℕ) → q < a → nat_abs (get_or s (get_or still q 0) (pos 0)) ≤ L
  pub side_within : (q : ℕ) → q < b → nat_abs (get_or s (get_or side q 0) (pos 0) +ℤ pos i *ℤ get_or y (get_or side q 0) (pos 0)) ≤ L

-- the numbers i below k for which they stay
pub record SideSpan (L : ℕ) (s y : List ℤ) (still : List ℕ) (a : ℕ) (side : List ℕ) (b k : ℕ) (r : Span) : Type 0 where
  pub bound : r.to ≤ k
  pub inside : (i : ℕ) → r.from ≤ i → i < r.to → Staying L s y still a side b i
  pub outside : (i : ℕ) → i < k → Staying L s y still a side b i → (r.from ≤ i) × (i < r.to)

-- blocks of a run whose values are within -L to L wherever the first cycle does not move them
abbrev pub Inside : ℕ → List ℤ → List ℤ → List ℤ → Span → Type 0
Inside L s z y r = (i : ℕ) → r.from ≤ i → i < r.to → (e : ℕ) → e < length s → equal (get_or z e (pos 0)) (pos 0) ≡ true → nat_abs (get_or (with_cycle s (pos i) y) e (pos 0)) ≤ L
