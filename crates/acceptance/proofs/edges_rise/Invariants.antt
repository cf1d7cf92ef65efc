use Rattle.std.proofs.Common.{◌≡◌}
use Rattle.mathematics.specs.Tests.{every_entry}
use Rattle.complex.specs.Complex.{simplices}
use Rattle.complex.specs.Judge.{rising}
use Rattle.acceptance.proofs.edges_rise.Given as goal

abbrev pub invariant-loop-a : goal.invariant-loop-a
invariant-loop-a l = l.so_far ≡ every_entry (rising l.c.n_vertices) (simplices 2 l.c.edges l.a-index)
