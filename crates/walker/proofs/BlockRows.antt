-- The rows of a block.
use Prim.Native.Nat.{ℕ, zero, suc, ◌+◌, ◌-◌, ◌*◌, ◌≤◌, ◌<◌}
use mathlib.Core.List.{List, [], ◌∷◌, ◌++◌, map, map-append, flatten}
use mathlib.Core.Path.{◌≡◌, ◌∙◌}
use native.Mathlib.Omega.{arith}
use native.Mathlib.Nat.{mul-le-mul_right}
use lib.IntN.{ℤ, pos}
use lib.ListN.{get_or, length, length-append, length-map}
use Rattle.mathematics.specs.Counting.{below}
use Rattle.mathematics.proofs.Below.{length_below, map_below_at}
use Rattle.mathematics.proofs.Flat.{flatten_last}
use Rattle.cycles.specs.Cycles.{with_cycle}
use Rattle.walker.specs.Walker.{block_rows}
use Rattle.cycles.proofs.Adding.{added_length}

module _ (s z : List ℤ) (from : ℕ) where
  pub rows_none : (to : ℕ) → to - from ≡ 0 → block_rows s z from to ≡ []
  unfolding block_rows below
  rows_none to h = rw h

  pub rows_more : (d : ℕ) → from ≤ d → block_rows s z from (d + 1) ≡ block_rows s z from d ++ (with_cycle s (pos d) z ∷ [])
  unfolding block_rows below
  rows_more d h =
      let e : d + 1 - from ≡ suc (d - from) = omega arith in
      let f : from + (d - from) ≡ d = omega arith in
      rw (e, map-append (λ i. with_cycle s (pos (from + i)) z) (below (d - from)) ((d - from) ∷ []), f)

  pub rows_length : (to : ℕ) → length (block_rows s z from to) ≡ to - from
  unfolding block_rows
  rows_length to = length-map (below (to - from)) (λ i. with_cycle s (pos (from + i)) z) ∙ length_below (to - from)

  pub rows_at : (to i : ℕ) → i < to - from → get_or (block_rows s z from to) i [] ≡ with_cycle s (pos (from + i)) z
  unfolding block_rows
  rows_at to i h = map_below_at (λ i. with_cycle s (pos (from + i)) z) (to - from) i [] h

  pub rows_long : (to : ℕ) → length (flatten (block_rows s z from to)) ≡ (to - from) * length s
  unfolding block_rows below flatten
  rows_long to = go (to - from)
    where
      go : (n : ℕ) → length (flatten (map (λ i. with_cycle s (pos (from + i)) z) (below n))) ≡ n * length s
      go zero = omega arith
      go (suc n) =
          let f : ℕ → List ℤ = λ i. with_cycle s (pos (from + i)) z in
          rw (map-append f (below n) (n ∷ []), flatten_last (map f (below n)) (f n), length-append (flatten (map f (below n))) (f n), go n, added_length s (pos (from + n)) z) (omega arith)

-- one row more has room
pub row_room : (from d to m : ℕ) → from ≤ d → d < to → (d - from) * m + m ≤ (to - from) * m
row_room from d to m h k =
    let l : suc (d - from) ≤ to - from = omega arith in
    omega (arith, mul-le-mul_right m l)

pub row_after : (from d m : ℕ) → from ≤ d → (d + 1 - from) * m ≡ (d - from) * m + m
row_after from d m h =
    let e : d + 1 - from ≡ suc (d - from) = omega arith in
    rw e (omega arith)
