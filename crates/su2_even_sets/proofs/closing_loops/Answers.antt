use Rattle.std.proofs.Common.{◌≡◌, [], ◌∷◌, add-one, ◌∙◌, arith}
use lib.ListN.{get_or}
use Rattle.complex.specs.Complex.{entries, simplices, complex_of}
use Rattle.complex.proofs.Simplices.{simplices_length, simplex_at}
use Rattle.gauss_law.proofs.Spanned.{accepted_searchable}
use Rattle.su2_even_sets.specs.Loops.{separate, grown}
use Rattle.su2_even_sets.proofs.Tables.{keeps_sized, grown_within}
use Rattle.su2_even_sets.proofs.closing_loops.Goals as goal

pub loop-e-init : goal.loop-e-init
unfolding grown separate
loop-e-init c = let none = c.separate-forest.ensures.closing.count in record { few = omega arith; keeps = c.separate-forest.ensures }

pub edge-a-requires : goal.edge-a-requires
edge-a-requires c = omega (arith, (accepted_searchable c.args.c c.requires).edges_fit)

pub grow-requires : goal.grow-requires
unfolding entries
grow-requires c =
    let searchable = accepted_searchable c.args.c c.requires in
    let r = c.args.c in
    let e = c.loop-e.e in
    let ends = rw (simplex_at 2 r.edges r.n_edges e (omega arith)) at (searchable.ends e (rw (simplices_length 2 r.edges r.n_edges) (omega arith))) in (
      keeps_sized _ _ c.loop-e.invariant.keeps,
      c.loop-e.invariant.few,
      omega (arith, searchable.edges_fit),
      rw c.edge-a.ensures.first (omega (arith, ends.0, ends.1)),
      rw c.edge-a.ensures.second ends.1,
      searchable.vertices_fit,
    )

pub loop-e-preserved : goal.loop-e-preserved
unfolding grown entries
loop-e-preserved c =
    let searchable = accepted_searchable c.args.c c.requires in
    let r = c.args.c in
    let e = c.loop-e.e in
    let es = simplices 2 r.edges r.n_edges in
    let one : get_or es e [] ≡ c.edge-a.result.0 ∷ c.edge-a.result.1 ∷ [] = simplex_at 2 r.edges r.n_edges e (omega arith) ∙ rw (c.edge-a.ensures.first, c.edge-a.ensures.second) in
    let within = grown_within r.n_vertices es searchable.ends e (rw (simplices_length 2 r.edges r.n_edges) (omega arith)) in
    record {
      few = omega (arith, c.grow.ensures.few, c.loop-e.invariant.few);
      keeps = rw (add-one e, one) (c.grow.ensures.keeps (grown es e) c.loop-e.invariant.keeps within);
    }

pub returns : goal.returns
unfolding complex_of
returns c =
    let past : c.loop-e.e ≡ c.args.c.n_edges = omega arith in
    rw past at c.loop-e.invariant.keeps
