use Rattle.std.proofs.Common.{sym}
use lib.Seq.{length-take-le}
use Rattle.gauss_law.proofs.Spanned.{accepted_searchable, searched_spanned}
use Rattle.walker.proofs.Fitting.{few_edges, begin_ready, cycles_may, tables_walk}
use Rattle.walker.proofs.tables.prepare.Goals as goal

pub search-tree-requires : goal.search-tree-requires
search-tree-requires c = accepted_searchable _ c.requires.0

pub free_edges-free-requires : goal.free_edges-free-requires
free_edges-free-requires c = searched_spanned _ _ c.requires.0 c.search-tree.ensures

pub tree_paths-paths-requires : goal.tree_paths-paths-requires
tree_paths-paths-requires c = searched_spanned _ _ c.requires.0 c.search-tree.ensures

pub fundamental_cycles-cycles-requires : goal.fundamental_cycles-cycles-requires
fundamental_cycles-cycles-requires c = (c.requires.0, c.tree_paths-paths.ensures, c.free_edges-free.ensures)

pub slice_bounds-begin-end : goal.slice_bounds-begin-end
slice_bounds-begin-end c = sym (length-take-le _ _ (few_edges c.args.c c.requires.0))

pub begin-requires : goal.begin-requires
begin-requires c =
    begin_ready c.args.c.n_edges c.free_edges-free.result.count c.args.lambda c.fundamental_cycles-cycles.result
    (cycles_may c.args.c c.requires.0 c.args.lambda c.requires.1 c.free_edges-free.result c.free_edges-free.ensures c.fundamental_cycles-cycles.result c.fundamental_cycles-cycles.ensures)

pub returns : goal.returns
returns c =
    tables_walk c.args.c c.requires.0 c.args.lambda c.requires.1 c.free_edges-free.result c.free_edges-free.ensures c.fundamental_cycles-cycles.result c.fundamental_cycles-cycles.ensures c.begin.new.config c.begin.auto.config c.begin.ensures
