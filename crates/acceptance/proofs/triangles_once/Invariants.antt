use Rattle.std.proofs.Common.{map}
use Rattle.complex.specs.Complex.{simplices}
use Rattle.complex.specs.Numbering.{triangle_key}
use Rattle.acceptance.specs.Once.{Marked}
use Rattle.acceptance.proofs.triangles_once.Given as goal

abbrev pub invariant-loop-t : goal.invariant-loop-t
invariant-loop-t l = Marked l.seen l.so_far (map (triangle_key l.table) (simplices 3 l.c.triangles l.t))
