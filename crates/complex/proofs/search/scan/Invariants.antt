use Rattle.std.proofs.Common.{◌≡◌, ◌-◌, ◌/◌, ◌<◌, ◌≤◌, get_or}
use Rattle.complex.specs.Complex.{simplices}
use Rattle.complex.specs.Search.{scan}
use Rattle.complex.specs.Tree.{search_of, Searched}
use Rattle.complex.proofs.search.scan.Given as goal

abbrev pub invariant-loop-d : goal.invariant-loop-d
invariant-loop-d l =
    record {
      within : l.d ≤ l.count;
      there : l.d < l.count → get_or l.c.edges l.d 0 ≡ l.v;
      searched : Searched l.c.n_vertices l.tree (scan (simplices 2 l.c.edges l.c.n_edges) l.v (search_of l.fn.tree) (l.d / 2));
    }

abbrev pub decreases-loop-d : goal.decreases-loop-d
decreases-loop-d l = l.count - l.d
