-- Rows made of others by adding to each entry, as the code makes them.
use Rattle.std.specs.Prelude.{ℕ, zero, suc, ◌+◌, ◌-◌, ◌*◌, ◌^◌, ◌≤◌, ◌≡◌, ℤ, pos, length, take, drop}
use mathlib.Core.List.{List, [], ◌++◌, flatten}
use Rattle.cycles.specs.Cycles.{with_cycle}
use Rattle.walker.specs.declared.blocks.Span.{Span}
use Rattle.walker.specs.Walker.{block_rows}
use Rattle.walker.specs.Steps.{Small}

-- a list n times, one after the other
unfoldable pub repeated : List ℤ → ℕ → List ℤ
repeated s zero = []
repeated s (suc n) = repeated s n ++ s

-- a list that begins with a cycle k times
pub record Beside (y : List ℤ) (k : ℕ) (list : List ℤ) : Type 0 where
  pub long : length list ≡ 256
  pub is : (r : ℕ) → r ≤ k → take (r * length y) list ≡ repeated y r

-- what stands in a list from a place on, an amount added to each entry
unfoldable pub raised : List ℤ → ℕ → List ℤ → List ℤ
raised list from amounts = with_cycle (take (length amounts) (drop from list)) (pos 1) amounts

-- amounts can be added to what stands some entries before a place; what is read ends before the place, and the sums have room there
pub record Raisable (list : List ℤ) (at back : ℕ) (amounts : List ℤ) : Type 0 where
  pub before : back ≤ at
  pub apart : length amounts ≤ back
  pub room : at + length amounts ≤ length list
  pub small : Small (2 ^ 25) (raised list (at - back) amounts)

-- the rows of a block end at a place of a list
pub record RowsBefore (list : List ℤ) (at : ℕ) (s z : List ℤ) (last : Span) : Type 0 where
  pub head : List ℤ
  pub tail : List ℤ
  pub is : list ≡ head ++ (flatten (block_rows s z last.from last.to) ++ tail)
  pub ends : length head + (last.to - last.from) * length s ≡ at
