use Rattle.std.proofs.Common.{◌≡◌, ◌&&◌, List}
use Rattle.mathematics.specs.Tests.{every_entry}
use Rattle.complex.specs.Complex.{Simplex, simplices}
use Rattle.complex.specs.Judge.{rising, sides_listed}
use Rattle.complex.specs.Numbering.{EdgeTable}
use Rattle.acceptance.proofs.triangles_fit.Given as goal

abbrev pub invariant-loop-t : goal.invariant-loop-t
invariant-loop-t l = (es : List Simplex) → EdgeTable l.table es → l.so_far ≡ every_entry (λ s. rising l.c.n_vertices s && sides_listed es s) (simplices 3 l.c.triangles l.t)
