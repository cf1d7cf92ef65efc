-- For theorems: what the loop by passes is worth, on any complex and for any amplitudes.
use Rattle.std.specs.Prelude.{ℕ, List, [], ◌++◌, true, ◌≡◌, eqb, Float, length}
use Rattle.mathematics.specs.Counting.{keep}
use Rattle.mathematics.specs.Lists.{distinct}
use Rattle.complex.specs.Complex.{Complex}
use Rattle.su2_even_sets.specs.EvenSets.{chosen}
use Rattle.su2_loops.specs.Loop.{passes_oddly, met, sign_of, path_right, su2_loop_call, su2_passes_call}

pub record PassesKnown (c : Complex) (vector : List Float) : Type 1 where
  -- It judges what su2_wilson_loop judges, along every path.
  pub refusals : (path work : List ℕ) → (su2_passes_call c vector path work).tests ≡ (su2_loop_call c vector path work).tests
  -- Along a path that names no edge twice it is the same call as su2_wilson_loop: the refusals, the value and the list are the same.
  pub once : (path work : List ℕ) → distinct eqb path ≡ true → su2_passes_call c vector path work ≡ su2_loop_call c vector path work
  -- Along an accepted path followed by itself it is the same call as along the empty path.
  pub twice : (path work : List ℕ) → path_right (length c.edges) path ≡ true → su2_passes_call c vector (path ++ path) work ≡ su2_passes_call c vector [] work
  -- Step by step along an accepted path: each step over an edge of the set x turns the sign once.
  pub steps : (path : List ℕ) (x : ℕ) → path_right (length c.edges) path ≡ true → sign_of (met c (passes_oddly path) x) ≡ sign_of (length (keep (chosen x) path))
