use Rattle.std.proofs.Common.{◌≡◌, arith}
use Rattle.complex.specs.Complex.{entries, simplices}
use Rattle.complex.specs.Numbering.{key}
use Rattle.complex.proofs.Chunks.{listed_long, listed_at}
use Rattle.acceptance.proofs.Once.{none_indexed, indexed_next, small_ends}
use Rattle.acceptance.proofs.index_edges.Goals as goal

pub loop-e-init : goal.loop-e-init
unfolding simplices
loop-e-init c = rw c.requires.1 none_indexed

pub bounds-table-key : goal.bounds-table-key
bounds-table-key c =
    let small = small_ends _ _ c.edge_pairs-a-items.ensures c.requires.2 c.loop-e.e c.loop-e-test.true in
    omega (arith, small, c.from.ensures, c.from-in-loop-e.ensures)

pub overflow_cast-table : goal.overflow_cast-table
overflow_cast-table c = omega (arith, listed_long 2 c.args.c.now.edges c.args.c.now.n_edges c.edge_pairs-a-items.ensures)

pub bounds-table-key-in-loop-e : goal.bounds-table-key-in-loop-e
bounds-table-key-in-loop-e c =
    let small = small_ends _ _ c.edge_pairs-a-items.ensures c.requires.2 c.loop-e.e c.loop-e-test.true in
    omega (arith, small, c.from.ensures, c.from-in-loop-e.ensures)

pub loop-e-preserved : goal.loop-e-preserved
unfolding key entries
loop-e-preserved c =
    let small = c.requires.2 c.loop-e.e (omega (arith, listed_long 2 c.args.c.now.edges c.args.c.now.n_edges c.edge_pairs-a-items.ensures)) in
    rw (c.from.ensures, c.from-in-loop-e.ensures, listed_at 2 _ _ c.edge_pairs-a-items.ensures c.loop-e-test.true) (indexed_next _ _ small.0 small.1 _ _ c.loop-e.invariant)

pub returns : goal.returns
returns c =
    let past : c.loop-e.e ≡ c.args.c.now.n_edges = omega (arith, listed_long 2 c.args.c.now.edges c.args.c.now.n_edges c.edge_pairs-a-items.ensures) in
    rw past at c.loop-e.invariant
