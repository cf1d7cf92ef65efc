use Rattle.std.proofs.Common.{◌≡◌, refl, arith}
use Rattle.mathematics.specs.Tests.{every_entry}
use Rattle.complex.specs.Complex.{entries, simplices}
use Rattle.complex.specs.Judge.{rising}
use Rattle.complex.proofs.Indexes.{all_next}
use Rattle.complex.proofs.Chunks.{listed_long, listed_at}
use Rattle.acceptance.proofs.edges_rise.Goals as goal

pub loop-a-init : goal.loop-a-init
unfolding every_entry simplices
loop-a-init c = refl

pub loop-a-preserved : goal.loop-a-preserved
unfolding rising entries
loop-a-preserved c = rw (all_next, ← c.loop-a.invariant, c.from.ensures, listed_at 2 _ _ c.edge_pairs-a-items.ensures c.loop-a-test.true) refl

pub returns : goal.returns
returns c =
    let past : c.loop-a.a-index ≡ c.args.c.now.n_edges = omega (arith, listed_long 2 c.args.c.now.edges c.args.c.now.n_edges c.edge_pairs-a-items.ensures) in
    rw past at c.loop-a.invariant
