-- No row holds one column twice.
use Prim.Native.Nat.{ℕ}
use mathlib.Core.Path.{sym}
use mathlib.Core.Logic.{◌≢◌}
use Rattle.mathematics.proofs.Below.{below_each}
use Rattle.mathematics.proofs.Ordered.{before, each_to, each_map, ordered_at}
use Rattle.complex.proofs.TriangleEdges.{edge_sets_differ}
use Rattle.su2_masks.specs.Flips.{su2_target}
use Rattle.su2_masks.proofs.Flips.{su2_target_elsewhere, never_flipped, flips_turned, one_flip, su2_targets_once, su2_targets_joined}
use Rattle.su2_rows.specs.Once.{NoColumnTwice}

pub no_column_twice : NoColumnTwice
no_column_twice c accepted =
    record {
      edge_sets = edge_sets_differ c accepted;
      elsewhere = λ t i number h. never_flipped c accepted t number i h;
      both_ways = λ t i j number h k. flips_turned c accepted t number i j h k;
      one_triangle = λ t u i j number number' h e e'. one_flip c accepted i h t u j number number' e e';
      others = λ i j h k. su2_targets_joined c accepted i h j k;
      once = λ i h.
          ordered_at {R = λ (j k : ℕ). j ≢ k} 0
          (before (each_map (λ t. su2_target c t i) (each_to (λ t number e. su2_target_elsewhere c accepted t number i h (sym e)) (below_each _))) (su2_targets_once c accepted i h));
    }
