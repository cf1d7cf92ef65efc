use Rattle.std.proofs.Common.{[], ◌∷◌}
use Rattle.complex.specs.Complex.{simplices}
use Rattle.complex.specs.Search.{served}
use Rattle.complex.specs.Tree.{Searched}
use Rattle.complex.proofs.search.search.Given as goal

abbrev pub invariant-loop-h : goal.invariant-loop-h
invariant-loop-h l = Searched l.c.n_vertices l.tree (served (simplices 2 l.c.edges l.c.n_edges) (record { seen = 0 ∷ []; tree = [] }) l.h)
