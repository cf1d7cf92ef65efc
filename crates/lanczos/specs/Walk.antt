-- What the code keeps while it makes a product.
use Rattle.std.specs.Prelude.{ℕ, zero, suc, ◌+◌, List, map, ℤ, Float, get_or}
use Rattle.std.specs.Float.{binary64, nan}
use Rattle.std.specs.Float.Ieee.{add, mul}
use Rattle.mathematics.specs.Counting.{below}
use Rattle.matrices.specs.Coupling.{float_of}
use Rattle.plaquettes.specs.Rows.{electric_term}
use Rattle.lanczos.specs.Matvec.{with_hit}

-- the electric part by the first n rows of m values of a list
unfoldable pub electric_parts : Float → ℕ → List ℤ → List Float → ℕ → List Float
electric_parts factor m list v n = map (λ i. add binary64 (float_of 0) (mul binary64 (electric_term factor m list i) (get_or v i nan))) (below n)

-- the hits of a run: from i + k to j + k for each k below n, rising
unfoldable pub run_added : Float → List Float → ℕ → ℕ → ℕ → List Float → List Float
run_added x v i j zero r = r
run_added x v i j (suc k) r = with_hit x v (i + k) (j + k) (run_added x v i j k r)
