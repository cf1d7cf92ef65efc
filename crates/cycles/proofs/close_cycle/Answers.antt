use Rattle.std.proofs.Common.{◌≡◌, ◌+◌, ◌*◌, ◌-◌, arith}
use borrow.Rule.Slice.PartMut.{mid_len}
use Rattle.complex.specs.Complex.{entries}
use Rattle.cycles.specs.Cycles.{cycle_row}
use Rattle.cycles.proofs.CycleTables.{paths_differ, difference_long}
use Rattle.cycles.proofs.Rows.{row_put}
use Rattle.cycles.proofs.close_cycle.Goals as goal

pub subtract_paths-requires : goal.subtract_paths-requires
subtract_paths-requires c =
    let same : 63 * c.args.j + c.args.c.now.n_edges - 63 * c.args.j ≡ c.args.c.now.n_edges = omega arith in
    let long = mid_len (63 * c.args.j) (63 * c.args.j + c.args.c.now.n_edges) c.args.cycles.now (omega (arith, c.requires.2.few, c.requires.3)) in
    rw (long, same, c.path_to.ensures, c.path_to-2.ensures, c.edge-a.ensures.first, c.edge-a.ensures.second) (paths_differ _ _ _ _ c.requires.2)

pub returns : goal.returns
unfolding cycle_row entries
returns c =
    let same : 63 * c.args.j + c.args.c.now.n_edges - 63 * c.args.j ≡ c.args.c.now.n_edges = omega arith in
    rw (c.subtract_paths.ensures, c.path_to.ensures, c.path_to-2.ensures, c.edge-a.ensures.first, c.edge-a.ensures.second, row_put _ _ _ _ _ same (difference_long _ _ _ _ c.requires.2))
