-- What the code of the walk asks: sizes of tables and of values, and where runs begin.
use Rattle.std.specs.Prelude.{ℕ, ◌^◌, ◌<◌, ◌≤◌, List, ◌≡◌, ℤ, pos, neg_ℤ, nat_abs, get_or, length}
use Rattle.cycles.specs.Cycles.{row}
use Rattle.walker.specs.Walker.{walked}

-- every value of the list is at most the bound in size
abbrev pub Small : ℕ → List ℤ → Type 0
Small bound s = (e : ℕ) → nat_abs (get_or s e (pos 0)) ≤ bound

-- signs that can be added to values a number of times
pub record Addable (s : List ℤ) (t : ℤ) (z : List ℤ) : Type 0 where
  pub sized : length z ≡ length s
  pub values : Small (2 ^ 24) s
  pub times : nat_abs t ≤ 2 ^ 24
  pub signs : Small 1 z

-- a table of signs with a row for each of n cycles over m edges
pub record CyclesFit (m n L : ℕ) (cycles : List ℤ) : Type 0 where
  pub edges_few : m ≤ 63
  pub free_few : n ≤ 63
  pub truncation : L ≤ 1000
  pub long : length cycles ≡ 3969
  pub signs : Small 1 cycles

-- a list that begins with n of m edges
pub record FreeFit (m n : ℕ) (free : List ℕ) : Type 0 where
  pub long : length free ≡ 63
  pub inside : (j : ℕ) → j < n → get_or free j 0 < m

-- tables by which k blocks can be walked from s
pub record Walkable (free : List ℕ) (cycles : List ℤ) (L n : ℕ) (s : List ℤ) (k : ℕ) : Type 0 where
  pub cycles_fit : CyclesFit (length s) n L cycles
  pub free_fit : FreeFit (length s) n free
  pub few : k ≤ 2 ^ 20
  pub values : (i : ℕ) → i < k → Small (2 ^ 20) (walked free (row (length s) cycles) L n s i)
  pub sized : (i : ℕ) → length (walked free (row (length s) cycles) L n s i) ≡ length s

-- The walk begins at -L on the second free edge. The cycle of that edge is 1 on it, and the later cycles are 0 on it. So the walk goes by runs
-- of blocks, in which that edge counts up.
pub record Runs (free : List ℕ) (cycles : List ℤ) (L n : ℕ) (s : List ℤ) : Type 0 where
  pub own : 1 < n → get_or (row (length s) cycles 1) (get_or free 1 0) (pos 0) ≡ pos 1
  pub others : (j : ℕ) → 1 < j → j < n → get_or (row (length s) cycles j) (get_or free 1 0) (pos 0) ≡ pos 0
  pub low : 1 < n → get_or s (get_or free 1 0) (pos 0) ≡ neg_ℤ (pos L)
