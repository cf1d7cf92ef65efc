-- The place of a mask, as the matrices ask for it.
use Rattle.std.specs.Prelude.{ℕ, ◌<◌, ◌≤◌, ◌≡◌, get_or, length}
use Rattle.complex.specs.Complex.{Complex}
use Rattle.complex.specs.Judge.{Accepted}
use Rattle.su2_even_sets.specs.declared.Forest.{Forest}
use Rattle.su2_even_sets.specs.Loops.{grown}
use Rattle.su2_even_sets.specs.Forest.{Keeps}

-- the closing edges and loops of an accepted complex
pub record LoopsOf (c : Complex) (f : Forest) : Type 0 where
  pub accepted : Accepted c
  pub keeps : Keeps (grown c.edges (length c.edges)) f

-- not more than 20 closing edges, each below 64
pub record Readable (f : Forest) : Type 0 where
  pub long : length f.closing ≡ 63
  pub loops_long : length f.loops ≡ 63
  pub few : f.count ≤ 20
  pub below : (j : ℕ) → j < f.count → get_or f.closing j 0 < 64

-- the closing edges and loops of an accepted complex with at most 20 of them
pub record FewLoops (c : Complex) (f : Forest) : Type 0 where
  pub of : LoopsOf c f
  pub few : f.count ≤ 20
