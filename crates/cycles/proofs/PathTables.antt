-- The table of paths of an accepted record, as the code fills it.
use Prim.Native.Nat.{ℕ, suc, ◌+◌, ◌-◌, ◌*◌, ◌≤◌, ◌<◌, min}
use mathlib.Core.List.{List, []}
use mathlib.Core.Path.{◌≡◌, sym, ◌∙◌, ap, subst}
use mathlib.Core.Logic.{◌≢◌, inl, inr}
use native.Mathlib.Omega.{arith}
use native.Mathlib.Numerals.{add-one}
use mathlib.Core.Bool.{cond}
use borrow.Author.Tests.{eq-eqb, ne_eqb}
use lib.Dec.{eqb}
use lib.IntN.{ℤ, pos, negsuc}
use lib.ListN.{get_or, length, take, drop, set, replicate, length-replicate, length-set, length-drop}
use lib.Seq.{paste, get_or-take, get_or-drop, length-take-le, length-paste}
use Rattle.complex.specs.declared.SimplicialComplex.{SimplicialComplex}
use Rattle.complex.specs.declared.search.SpanningTree.{SpanningTree}
use Rattle.complex.specs.Complex.{Simplex, start, end, Joins, entries, complex_of}
use Rattle.complex.specs.Search.{Search, whole_search, across, SpansReached}
use Rattle.complex.specs.Judge.{Accepted}
use Rattle.complex.specs.Tree.{search_of}
use Rattle.complex.proofs.Simplices.{simplex_at}
use Rattle.complex.proofs.Looks.{joins_across}
use Rattle.complex.proofs.Accepting.{accepted}
use Rattle.gauss_law.specs.Listing.{tree_edges}
use Rattle.gauss_law.specs.Spanning.{Spanned}
use Rattle.gauss_law.proofs.Accepted.{accepted_spans}
use Rattle.gauss_law.proofs.Spanned.{edges_long, spanned_edges, spanned_tree, spanned_found}
use Rattle.cycles.specs.Cycles.{row, toward, PathTable, extended}
use Rattle.cycles.proofs.Rows.{zero_row, row_length, row_written, row_kept, row_set, row_set_other}
use Rattle.cycles.proofs.Paths.{path_none, path_more}

pub joins_back : (s : Simplex) (v w : ℕ) → Joins s v w → Joins s w v
joins_back s v w (inl j) = inr j
joins_back s v w (inr j) = inl j

module _ (c : SimplicialComplex) (t : SpanningTree) (spanned : Spanned c t) where
  good : Accepted (complex_of c)
  good = (accepted c).0 spanned.accepted

  abbrev found : Search
  found = whole_search (complex_of c).edges (complex_of c).vertices

  spans : SpansReached (complex_of c).edges (complex_of c).vertices found
  spans = accepted_spans (complex_of c) good

  few : length (complex_of c).edges ≤ 63
  few = good.few_edges

  tree_long : length found.tree ≡ t.found
  unfolding tree_edges
  tree_long = sym (spanned_found c t spanned)

  pub vertex_found : (i : ℕ) → i ≤ t.found → get_or found.seen i 0 ≡ get_or t.queue i 0
  unfolding search_of complex_of
  vertex_found i h = ap (λ s. get_or s.seen i 0) (sym spanned.searched.stands) ∙ get_or-take (t.found + 1) t.queue i 0 (omega arith)

  pub edge_found : (i : ℕ) → i < t.found → get_or found.tree i 0 ≡ get_or t.tree_edges i 0
  unfolding tree_edges
  edge_found i h = ap (λ l. get_or l i 0) (sym (spanned_tree c t spanned)) ∙ get_or-take t.found t.tree_edges i 0 h

  vertex_below : (i : ℕ) → i ≤ t.found → get_or found.seen i 0 < 64
  vertex_below i h = let l = good.few_vertices in let b = spans.below i (omega (arith, tree_long, spans.sizes)) in omega arith

  -- ---- one path more
  module _ (i : ℕ) (more : i < t.found) where
    abbrev edge : ℕ
    edge = get_or t.tree_edges i 0

    abbrev vertex : ℕ
    vertex = get_or t.queue (i + 1) 0

    abbrev sides : Simplex
    sides = entries c.edges (2 * edge) 2

    edge_inside : edge < length (complex_of c).edges
    edge_inside = rw (edge_found i more) at (spans.numbered i (omega (arith, tree_long)))

    sides_are : get_or (complex_of c).edges edge [] ≡ sides
    unfolding complex_of
    sides_are = simplex_at 2 c.edges c.n_edges edge (omega (arith, edge_inside, edges_long c))

    vertex_is : get_or found.seen (suc i) 0 ≡ vertex
    vertex_is = rw (add-one i) (vertex_found (suc i) more)

    record Parent : Type 0 where
      place : ℕ
      earlier : place ≤ i
      is : across sides vertex ≡ get_or found.seen place 0
      joined : Joins (get_or (complex_of c).edges (get_or found.tree i 0) []) (get_or found.seen place 0) (get_or found.seen (suc i) 0)

    parent : Parent
    parent =
        let r = spans.joined i (omega (arith, tree_long)) in
        let j : Joins sides (get_or found.seen r.0 0) vertex = rw (edge_found i more, sides_are, vertex_is) at r.2 in
        record { place = r.0; earlier = r.1; is = joins_across sides vertex _ (joins_back sides _ _ j); joined = r.2 }

    pub extend_ready : (edge < c.n_edges) × (c.n_edges ≤ 63) × (vertex < 64) × (across sides vertex < 64) × (across sides vertex ≢ vertex) × Joins sides vertex (across sides vertex)
    extend_ready =
        let p = parent in
        let older = p.earlier in
        rw p.is (
          omega (arith, edge_inside, edges_long c),
          spanned_edges c t spanned,
          rw vertex_is at (vertex_below (suc i) more),
          vertex_below p.place (omega arith),
          rw vertex_is at (spans.apart p.place (suc i) (omega arith) (omega (arith, tree_long, spans.sizes))),
          joins_back sides _ _ (rw (edge_found i more, sides_are, vertex_is) at p.joined),
        )

    extended_rows : (table : List ℤ) → PathTable (complex_of c) i table → PathTable (complex_of c) (suc i) (extended table (length (complex_of c).edges) sides edge vertex)
    unfolding extended
    extended_rows table h =
        record {
          long = length-set written (63 * vertex + edge) (toward sides vertex) ∙ copied ∙ h.long;
          paths = path_more es (complex_of c).vertices found spans i (omega (arith, tree_long)) (row m table) (row m new) h.paths p.place p.earlier p.joined made kept;
        }
      where
        es : List Simplex
        es = (complex_of c).edges

        m : ℕ
        m = length es

        p : Parent
        p = parent

        source : List ℤ
        source = row m table (across sides vertex)

        written : List ℤ
        written = paste table (63 * vertex) source m

        new : List ℤ
        new = set written (63 * vertex + edge) (toward sides vertex)

        ready : (edge < c.n_edges) × (c.n_edges ≤ 63) × (vertex < 64) × (across sides vertex < 64) × (across sides vertex ≢ vertex) × Joins sides vertex (across sides vertex)
        ready = extend_ready

        room : (v : ℕ) → v < 64 → 63 * v + m ≤ length table
        room v l = omega (arith, few, h.long)

        source_long : length source ≡ m
        source_long = row_length m few table (across sides vertex) (room (across sides vertex) ready.3)

        copied : length written ≡ length table
        copied = length-paste table (63 * vertex) source m (room vertex ready.2) (omega (arith, source_long))

        wide : (v : ℕ) → v < 64 → 63 * v + m ≤ length written
        wide v l = omega (arith, room v l, copied)

        made : row m new (get_or found.seen (suc i) 0) ≡ set (row m table (get_or found.seen p.place 0)) (get_or found.tree i 0) (toward (get_or es (get_or found.tree i 0) []) (get_or found.seen (suc i) 0))
        made =
            rw (vertex_is, edge_found i more, sides_are, ← p.is)
            (row_set m few written vertex (wide vertex ready.2) edge edge_inside (toward sides vertex)
            ∙ ap (λ l. set l edge (toward sides vertex)) (row_written m few table vertex (room vertex ready.2) source source_long))

        kept : (k : ℕ) → k ≤ i → row m new (get_or found.seen k 0) ≡ row m table (get_or found.seen k 0)
        kept k l =
            let v = get_or found.seen k 0 in
            let below : v < 64 = vertex_below k (omega arith) in
            let apart : v ≢ vertex = rw vertex_is at (spans.apart k (suc i) (omega arith) (omega (arith, tree_long, spans.sizes))) in
            row_set_other m few written vertex (wide vertex ready.2) edge edge_inside (toward sides vertex) v apart (wide v below)
            ∙ row_kept m few table vertex (room vertex ready.2) source source_long v apart (room v below)

    pub extend_more : (table : List ℤ) → PathTable (complex_of c) i table → PathTable (complex_of c) (i + 1) (extended table c.n_edges sides edge vertex)
    extend_more table h =
        subst (λ k. PathTable (complex_of c) k (extended table c.n_edges sides edge vertex)) (sym (add-one i))
        (subst (λ m. PathTable (complex_of c) (suc i) (extended table m sides edge vertex)) (edges_long c) (extended_rows table h))

  pub no_paths : PathTable (complex_of c) 0 (replicate 4032 (pos 0))
  no_paths =
      record {
        long = length-replicate 4032 (pos 0);
        paths = path_none (complex_of c).edges (complex_of c).vertices found spans (row (length (complex_of c).edges) (replicate 4032 (pos 0))) (zero_row 4032 (length (complex_of c).edges) 0 few (omega (arith, few)));
      }

-- an edge leads to a vertex as it is gone over from the other end
pub toward_across : (s : Simplex) (w : ℕ) → across s w ≢ w → Joins s w (across s w) → cond (eqb (start s) (across s w)) (pos 1) (negsuc 0) ≡ toward s w
unfolding toward
toward_across s w apart (inl j) = rw (ne_eqb (start s) (across s w) (λ e. apart (sym e ∙ j.0)), ne_eqb (end s) w (λ e. apart (sym j.1 ∙ e)))
toward_across s w apart (inr j) = rw (eq-eqb (start s) (across s w) j.0, eq-eqb (end s) w j.1)

-- the tree edges and the vertices found, as the code walks them
abbrev pub walked_queue : SpanningTree → List ℕ
walked_queue t = take (length t.queue - 1) (drop 1 t.queue)

module _ (c : SimplicialComplex) (t : SpanningTree) (spanned : Spanned c t) where
  tree_room : length (take t.found t.tree_edges) ≡ t.found
  tree_room = let fits = spanned.searched.fits in length-take-le t.found t.tree_edges (omega (arith, fits.room, fits.tree_long))

  pub step_read : (k : ℕ) → k < length (take t.found t.tree_edges)
      → (k < t.found) × (get_or (take t.found t.tree_edges) k 0 ≡ get_or t.tree_edges k 0) × (get_or (walked_queue t) k 0 ≡ get_or t.queue (k + 1) 0)
  step_read k h =
      let fits = spanned.searched.fits in
      let more : k < t.found = omega (arith, tree_room) in
      let next : 1 + k ≡ k + 1 = omega arith in (
        more,
        get_or-take t.found t.tree_edges k 0 more,
        get_or-take (length t.queue - 1) (drop 1 t.queue) k 0 (omega (arith, fits.room, fits.queue_long)) ∙ get_or-drop 1 t.queue k 0 ∙ ap (λ (n : ℕ). get_or t.queue n 0) next,
      )

  pub steps_all : min (length (take t.found t.tree_edges)) (length (walked_queue t)) ≡ t.found
  steps_all =
      let fits = spanned.searched.fits in
      omega (arith, tree_room, length-take-le (length t.queue - 1) (drop 1 t.queue) (omega (arith, length-drop 1 t.queue)), fits.room, fits.queue_long)
