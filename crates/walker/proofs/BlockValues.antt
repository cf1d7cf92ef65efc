-- The states of a block have no value outside -L to L.
use Prim.Native.Nat.{ℕ, ◌+◌, ◌-◌, ◌≤◌, ◌<◌}
use mathlib.Core.List.{List, []}
use mathlib.Core.Bool.{true}
use mathlib.Core.Path.{◌≡◌}
use native.Mathlib.Omega.{arith}
use native.Mathlib.Decide.{dec_lt}
use lib.IntN.{ℤ, pos, nat_abs}
use lib.ListN.{get_or, length, get_or-eq_default}
use Rattle.mathematics.specs.Entries.{Each}
use Rattle.mathematics.proofs.Ordered.{keep_passes, each_at}
use Rattle.cycles.specs.Cycles.{with_cycle}
use Rattle.walker.specs.Walker.{block_rows, block}
use Rattle.walker.specs.Steps.{Small}
use Rattle.walker.proofs.Candidates.{within, within_at}
use Rattle.walker.proofs.Interval.{block_kept}
use Rattle.walker.proofs.BlockRows.{rows_at, rows_length}

within_small : (L : ℕ) (s : List ℤ) → within L s ≡ true → Small L s
within_small L s h e = go (dec_lt e (length s))
  where
    go : Dec (e < length s) → nat_abs (get_or s e (pos 0)) ≤ L
    go (yes k) = within_at L s h e k
    go (no k) = rw (get_or-eq_default s (pos 0) {n = e} (omega arith)) (omega arith)

module _ (L n : ℕ) (s z : List ℤ) (signs : Small 1 z) (long : length z ≡ length s) (from to : ℕ) (is : block_rows s z from to ≡ block L n s z) where
  rows_pass : Each (λ t. within L t ≡ true) (block_rows s z from to)
  rows_pass = rw (is, ← (block_kept L n s z signs long)) (keep_passes (within L) _)

  pub row_small : (d : ℕ) → from ≤ d → d < to → Small L (with_cycle s (pos d) z)
  row_small d h k =
      let inside : d - from < length (block_rows s z from to) = omega (arith, rows_length s z from to) in
      let e : from + (d - from) ≡ d = omega arith in
      within_small L (with_cycle s (pos d) z) (rw (rows_at s z from to (d - from) (omega arith), e) at (each_at [] rows_pass (d - from) inside))
