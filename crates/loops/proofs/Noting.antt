-- Places and edges noted by vertex, one vertex after the other, and what they are worth.
use Prim.Native.Nat.{ℕ, zero, suc, ◌+◌, ◌-◌, ◌<◌, ◌≤◌}
use mathlib.Core.List.{List}
use mathlib.Core.Bool.{false}
use mathlib.Core.Path.{◌≡◌, refl, sym, ap, ◌∙◌}
use mathlib.Core.Logic.{◌≢◌}
use native.Mathlib.Omega.{arith}
use native.Mathlib.Numerals.{add-one}
use native.Mathlib.Decide.{ℕ_discrete}
use lib.Dec.{eqb}
use lib.ListN.{get_or, length, set, length-set, replicate, get_or-replicate}
use lib.Seq.{get_or-set_same, get_or-set_other}
use Rattle.cycles.proofs.PathTables.{vertex_found, edge_found}
use Rattle.complex.specs.declared.SimplicialComplex.{SimplicialComplex}
use Rattle.complex.specs.declared.search.SpanningTree.{SpanningTree}
use borrow.Author.Tests.{eqb-false}
use Rattle.mathematics.specs.Lists.{position}
use Rattle.mathematics.proofs.Below.{place_right, listed_member}
use Rattle.complex.specs.Complex.{complex_of}
use Rattle.complex.specs.Search.{Search, whole_search, SpansReached}
use Rattle.complex.specs.Judge.{Accepted}
use Rattle.complex.proofs.Accepting.{accepted}
use Rattle.gauss_law.specs.Listing.{tree_edges}
use Rattle.gauss_law.specs.Spanning.{Spanned}
use Rattle.gauss_law.proofs.Accepted.{accepted_spans}
use Rattle.gauss_law.proofs.Spanned.{spanned_found}
use Rattle.loops.specs.declared.climbing.TreeParents.{TreeParents}
use Rattle.loops.specs.Parents.{parents_of}
use Rattle.loops.specs.Loops.{parents}
use Rattle.loops.specs.Climbing.{Orderly, Noted, Parented}
use Rattle.loops.proofs.AcceptedLoops.{accepted_seen}

module _ (t : SpanningTree) (ok : Orderly t) where
  pub none_noted : Noted t 0 (replicate 64 0) (replicate 64 0)
  none_noted =
      record {
        place_long = refl;
        led_long = refl;
        places = λ i l. let z : i ≡ 0 = omega arith in get_or-replicate 64 (get_or t.queue i 0) 0 0 (ok.below i (omega arith)) ∙ sym z;
        edges = λ i l. absurd (omega arith);
      }

  -- vertex i + 1 is noted
  module _ (i : ℕ) (more : i < t.found) (place led : List ℕ) (h : Noted t i place led) where
    abbrev v : ℕ
    v = get_or t.queue (i + 1) 0

    pub vertex_below : v < 64
    vertex_below = ok.below (i + 1) (omega arith)

    apart : (k : ℕ) → k ≤ i → get_or t.queue k 0 ≢ v
    apart k l = ok.once k (i + 1) (omega arith) (omega arith)

    pub one_noted : Noted t (i + 1) (set place v (i + 1)) (set led v (get_or t.tree_edges i 0))
    one_noted =
        record {
          place_long = length-set place v (i + 1) ∙ h.place_long;
          led_long = length-set led v (get_or t.tree_edges i 0) ∙ h.led_long;
          places = λ k l. at_place k l (ℕ_discrete k (i + 1));
          edges = λ k l. at_edge k l (ℕ_discrete k i);
        }
      where
        at_place : (k : ℕ) → k ≤ i + 1 → Dec (k ≡ i + 1) → get_or (set place v (i + 1)) (get_or t.queue k 0) 0 ≡ k
        at_place k l (yes q) = rw q (get_or-set_same place v (i + 1) 0 (let a = h.place_long in let b = vertex_below in omega arith))
        at_place k l (no q) = get_or-set_other place v (get_or t.queue k 0) (i + 1) 0 (apart k (omega arith)) ∙ h.places k (omega arith)

        at_edge : (k : ℕ) → k < i + 1 → Dec (k ≡ i) → get_or (set led v (get_or t.tree_edges i 0)) (get_or t.queue (k + 1) 0) 0 ≡ get_or t.tree_edges k 0
        at_edge k l (yes q) = rw q (get_or-set_same led v (get_or t.tree_edges i 0) 0 (let a = h.led_long in let b = vertex_below in omega arith))
        at_edge k l (no q) = get_or-set_other led v (get_or t.queue (k + 1) 0) (get_or t.tree_edges i 0) 0 (apart (k + 1) (omega arith)) ∙ h.edges k (omega arith)

-- ---- the search of an accepted record
module _ (c : SimplicialComplex) (t : SpanningTree) (spanned : Spanned c t) where
  abbrev found : Search
  found = whole_search (complex_of c).edges (complex_of c).vertices

  good : Accepted (complex_of c)
  good = (accepted c).0 spanned.accepted

  spans : SpansReached (complex_of c).edges (complex_of c).vertices found
  spans = accepted_spans (complex_of c) good

  tree_long : length found.tree ≡ t.found
  unfolding tree_edges
  tree_long = sym (spanned_found c t spanned)

  pub spanned_orderly : Orderly t
  spanned_orderly =
      let fits = spanned.searched.fits in
      record {
        queue_long = fits.queue_long;
        tree_long = fits.tree_long;
        room = fits.room;
        below =
            λ i l.
            let few = good.few_vertices in
            let b = spans.below i (omega (arith, spans.sizes, tree_long)) in
            let e = vertex_found c t spanned i l in
            omega arith;
        once = λ i j l m q. spans.apart i j l (omega (arith, spans.sizes, tree_long)) (vertex_found c t spanned i (omega arith) ∙ q ∙ sym (vertex_found c t spanned j m));
      }

  module _ (r : TreeParents) (h : Noted t t.found r.place r.led) where
    -- a vertex stands in the queue at its place
    place_of : (v : ℕ) → v < c.n_vertices → ((parents (complex_of c)).place v ≤ t.found) × (get_or t.queue ((parents (complex_of c)).place v) 0 ≡ v)
    unfolding parents parents_of complex_of
    place_of v l =
        let p = place_right 0 (listed_member v found.seen (accepted_seen (complex_of c) good v l)) in
        let few : position eqb v found.seen ≤ t.found = omega (arith, p.0, spans.sizes, tree_long) in
        (few, sym (vertex_found c t spanned (position eqb v found.seen) few) ∙ p.1)

    edge_of_place : (v q : ℕ) → (parents (complex_of c)).place v ≡ q → q ≢ 0 → q ≤ t.found → get_or t.queue q 0 ≡ v → get_or r.led v 0 ≡ (parents (complex_of c)).edge v
    unfolding parents parents_of complex_of
    edge_of_place v zero e n few is = absurd (n refl)
    edge_of_place v (suc i) e n few is =
        let less : position eqb v found.seen - 1 ≡ i = omega arith in
        ap (λ x. get_or r.led x 0) (sym (ap (λ k. get_or t.queue k 0) (add-one i) ∙ is)) ∙ h.edges i few ∙ sym (edge_found c t spanned i few) ∙ ap (λ k. get_or found.tree k 0) (sym less)

    other : (v : ℕ) → (parents (complex_of c)).root v ≡ false → (parents (complex_of c)).place v ≢ 0
    unfolding parents parents_of
    other v n = eqb-false (position eqb v found.seen) 0 n

    pub noted_parented : Parented c r
    noted_parented =
        record {
          accepted = spanned.accepted;
          place_long = h.place_long;
          led_long = h.led_long;
          places = λ v l. let p = place_of v l in ap (λ x. get_or r.place x 0) (sym p.1) ∙ h.places ((parents (complex_of c)).place v) p.0;
          edges = λ v l n. let p = place_of v l in edge_of_place v ((parents (complex_of c)).place v) refl (other v n) p.0 p.1;
        }
