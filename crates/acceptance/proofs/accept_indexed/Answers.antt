use Rattle.std.proofs.Common.{◌≡◌, true, sym, ◌∙◌}
use Rattle.complex.proofs.Accepting.{counts}
use Rattle.complex.proofs.Judging.{counts_of, wrong_counts, falling_edge, repeated_edge, wrong_triangle, all_keyed, repeated_triangle, last_test, small_ends, searchable}
use Rattle.acceptance.proofs.Indexed.{edges_indexed}
use Rattle.acceptance.proofs.accept_indexed.Goals as goal

pub returns-then-not-counts_right : goal.returns-then-not-counts_right
returns-then-not-counts_right c = wrong_counts _ _ (sym c.counts_right.ensures ∙ c.if-not-counts_right.true)

pub edges_rise-requires : goal.edges_rise-requires
edges_rise-requires c = (counts _ _ _ (sym c.counts_right.ensures ∙ c.if-not-counts_right.false)).edges

pub returns-then-not-edges_rise : goal.returns-then-not-edges_rise
returns-then-not-edges_rise c =
    falling_edge _ _ (sym c.counts_right.ensures ∙ c.if-not-counts_right.false) (sym c.edges_rise.ensures ∙ c.if-not-edges_rise.true)

pub index_edges-requires : goal.index_edges-requires
index_edges-requires c =
    let right : counts_of c.args.c ≡ true = sym c.counts_right.ensures ∙ c.if-not-counts_right.false in
    ((counts _ _ _ right).edges, c.requires, small_ends c.args.c right (sym c.edges_rise.ensures ∙ c.if-not-edges_rise.false))

pub returns-then-not-index_edges : goal.returns-then-not-index_edges
returns-then-not-index_edges c =
    repeated_edge _ _ (sym c.counts_right.ensures ∙ c.if-not-counts_right.false) (sym c.edges_rise.ensures ∙ c.if-not-edges_rise.false) (sym c.index_edges.ensures.once ∙ c.if-not-index_edges.true)

pub triangles_fit-requires : goal.triangles_fit-requires
triangles_fit-requires c =
    let k = counts _ _ _ (sym c.counts_right.ensures ∙ c.if-not-counts_right.false) in
    (k.triangles, k.vertices)

pub returns-then-not-triangles_fit : goal.returns-then-not-triangles_fit
returns-then-not-triangles_fit c =
    let i = edges_indexed c.args.c c.counts_right.ensures c.if-not-counts_right.false c.edges_rise.ensures c.if-not-edges_rise.false c.index_edges.ensures c.if-not-index_edges.false in
    wrong_triangle i (sym (c.triangles_fit.ensures _ i.index) ∙ c.if-not-triangles_fit.true)

pub triangles_once-requires : goal.triangles_once-requires
triangles_once-requires c =
    let i = edges_indexed c.args.c c.counts_right.ensures c.if-not-counts_right.false c.edges_rise.ensures c.if-not-edges_rise.false c.index_edges.ensures c.if-not-index_edges.false in
    ((counts _ _ _ i.right).triangles, all_keyed i (sym (c.triangles_fit.ensures _ i.index) ∙ c.if-not-triangles_fit.false))

pub returns-then-not-triangles_once : goal.returns-then-not-triangles_once
returns-then-not-triangles_once c =
    let i = edges_indexed c.args.c c.counts_right.ensures c.if-not-counts_right.false c.edges_rise.ensures c.if-not-edges_rise.false c.index_edges.ensures c.if-not-index_edges.false in
    repeated_triangle i (sym (c.triangles_fit.ensures _ i.index) ∙ c.if-not-triangles_fit.false) (sym c.if-not-triangles_once.true ∙ c.triangles_once.ensures)

pub connected-requires : goal.connected-requires
connected-requires c =
    searchable c.args.c (sym c.counts_right.ensures ∙ c.if-not-counts_right.false) (sym c.edges_rise.ensures ∙ c.if-not-edges_rise.false)

-- the last test decides
pub returns-then-not-connected : goal.returns-then-not-connected
returns-then-not-connected c =
    let i = edges_indexed c.args.c c.counts_right.ensures c.if-not-counts_right.false c.edges_rise.ensures c.if-not-edges_rise.false c.index_edges.ensures c.if-not-index_edges.false in
    rw c.if-not-connected.true at (last_test i (sym (c.triangles_fit.ensures _ i.index) ∙ c.if-not-triangles_fit.false) (sym c.if-not-triangles_once.false ∙ c.triangles_once.ensures) _ c.connected.ensures)

pub returns : goal.returns
returns c =
    let i = edges_indexed c.args.c c.counts_right.ensures c.if-not-counts_right.false c.edges_rise.ensures c.if-not-edges_rise.false c.index_edges.ensures c.if-not-index_edges.false in
    rw c.if-not-connected.false at (last_test i (sym (c.triangles_fit.ensures _ i.index) ∙ c.if-not-triangles_fit.false) (sym c.if-not-triangles_once.false ∙ c.triangles_once.ensures) _ c.connected.ensures)
