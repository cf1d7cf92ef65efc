-- No row of the two-valued Hamiltonian holds one column twice.
use Rattle.std.specs.Prelude.{ℕ, ◌<◌, ◌∷◌, true, false, ◌≡◌, eqb, length}
use Rattle.mathematics.specs.Tests.{some}
use Rattle.mathematics.specs.Lists.{listed, Once}
use Rattle.complex.specs.Complex.{Complex}
use Rattle.complex.specs.Judge.{Accepted}
use Rattle.complex.specs.Sides.{EdgeSetsDiffer}
use Rattle.su2_even_sets.specs.EvenSets.{su2_states}
use Rattle.su2_masks.specs.Flips.{su2_targets, flips}

pub record ColumnsOnce (c : Complex) : Type 0 where
  -- distinct triangles have distinct edge sets
  pub edge_sets : EdgeSetsDiffer c
  -- no triangle flips a state to itself
  pub elsewhere : (t i : ℕ) → t < length c.triangles → i < length (su2_states c) → flips c t i i ≡ false
  -- a triangle that flips state i to state j flips j to i
  pub both_ways : (t i j : ℕ) → t < length c.triangles → i < length (su2_states c) → j < length (su2_states c) → flips c t i j ≡ flips c t j i
  -- two triangles never join the same two states
  pub one_triangle : (t u i j : ℕ) → t < length c.triangles → u < length c.triangles → i < length (su2_states c) → flips c t i j ≡ true → flips c u i j ≡ true → t ≡ u
  -- the states that the triangles join to state i are those to which they flip it
  pub others : (i j : ℕ) → i < length (su2_states c) → j < length (su2_states c) → some (λ t. flips c t i j) (length c.triangles) ≡ listed eqb j (su2_targets c i)
  -- so no column of row i is there twice: its own, and the state to which each triangle flips state i
  pub once : (i : ℕ) → i < length (su2_states c) → Once 0 (i ∷ su2_targets c i)

-- on every accepted complex
abbrev pub NoColumnTwice : Type 0
NoColumnTwice = (c : Complex) → Accepted c → ColumnsOnce c
