use Rattle.std.proofs.Common.{◌≡◌, ◌*◌, length, take, arith}
use lib.Seq.{get_or-take, length-take-le}
use native.Mathlib.Nat.{lt_of_lt_of_le}
use Rattle.complex.specs.Search.{served, whole_search}
use Rattle.complex.proofs.Looks.{served_next}
use Rattle.complex.proofs.HalfEdges.{half_below, linked_whole}
use Rattle.complex.proofs.Trees.{start_searched}
use Rattle.complex.proofs.search.search.Goals as goal

pub half_edges-half-requires : goal.half_edges-half-requires
half_edges-half-requires c =
    let edges = c.args.c.now.edges in
    let count = 2 * c.args.c.now.n_edges in
    let long : length (take count edges) ≡ count = length-take-le count edges (omega arith) in
    rw long (
      omega arith,
      λ d l.
          rw (get_or-take count edges d 0 l) (lt_of_lt_of_le (half_below _ _ _ c.requires d l) c.requires.vertices_fit),
    )

pub loop-h-init : goal.loop-h-init
unfolding served
loop-h-init c = start_searched _ c.requires.some_vertex

pub serve-requires : goal.serve-requires
serve-requires c =
    let edges = c.args.c.now.edges in
    let count = 2 * c.args.c.now.n_edges in
    let long : length (take count edges) ≡ count = length-take-le count edges (omega arith) in
    (c.requires, linked_whole _ _ _ _ (rw long at c.half_edges-half.ensures), c.loop-h.invariant.fits)

pub loop-h-preserved : goal.loop-h-preserved
loop-h-preserved c = rw (served_next, ← c.loop-h.invariant.stands) c.serve.ensures

pub returns : goal.returns
unfolding whole_search
returns c =
    let past : c.loop-h.h ≡ c.args.c.now.n_vertices = omega arith in
    rw past at c.loop-h.invariant
