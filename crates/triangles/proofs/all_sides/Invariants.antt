use Rattle.std.proofs.Common.{◌≡◌, ◌<◌, ◌*◌, ℕ}
use Rattle.complex.specs.Complex.{entries, complex_of}
use Rattle.complex.specs.Sides.{sides}
use Rattle.triangles.proofs.all_sides.Given as goal

abbrev pub invariant-loop-t : goal.invariant-loop-t
invariant-loop-t l = (k : ℕ) → k < l.t → sides (complex_of l.fn.c) k ≡ entries l.all (3 * k) 3
