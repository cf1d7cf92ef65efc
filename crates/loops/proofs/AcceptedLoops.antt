-- The path in the tree between two vertices of an accepted complex, and the loop that a free edge closes.
use Prim.Native.Nat.{ℕ, ◌<◌, ◌≤◌}
use mathlib.Core.List.{List, [], map}
use mathlib.Core.Bool.{true}
use mathlib.Core.Path.{◌≡◌, refl, sym, ◌∙◌}
use mathlib.Core.Logic.{inr, ◌≢◌}
use native.Mathlib.Omega.{arith}
use borrow.Author.Tests.{lt-ltb}
use lib.Dec.{eqb, ltb}
use lib.ListN.{get_or, length, length-map}
use Rattle.mathematics.specs.Counting.{below}
use Rattle.mathematics.specs.Entries.{Each, none, also}
use Rattle.mathematics.specs.Lists.{listed, In}
use Rattle.mathematics.proofs.Below.{below_at, length_below, map_at}
use Rattle.mathematics.proofs.Counting.{different_few}
use Rattle.mathematics.proofs.Lists.{at_distinct, numbers_equal}
use Rattle.mathematics.proofs.Ordered.{Member, empty, before, each_to, each_at, each_map, each_member, place_member, ordered_append, ordered_at, ordered_map}
use Rattle.mathematics.proofs.Tests.{at_all}
use Rattle.complex.specs.Complex.{Simplex, Complex}
use Rattle.complex.specs.Judge.{Accepted}
use Rattle.complex.specs.Search.{Search, whole_search}
use Rattle.gauss_law.specs.Listing.{tree_edges, free_edges}
use Rattle.gauss_law.proofs.Accepted.{accepted_spans, accepted_ends, free_count}
use Rattle.gauss_law.proofs.Free.{free_below, free_not_tree}
use Rattle.loops.specs.Parents.{ParentsOf, Together}
use Rattle.loops.specs.Walks.{Step, edge_of, Walk, stay, onward, EdgesOnce, IsPath}
use Rattle.loops.specs.Loops.{parents, path, first_end, second_end, loop_of, fundamental_loops, loop_steps, FundamentalLoop}
use Rattle.loops.proofs.LoopLists.{steps_few}
use Rattle.loops.proofs.Treads.{walk_append}
use Rattle.loops.proofs.TreePaths.{once_simple, tree_path_is}
use Rattle.loops.proofs.SearchParents.{search_parents, search_together}

-- ---- the edges of a walk
pub walk_edges : {es : List Simplex} {given : List ℕ} {a b : ℕ} {l : List Step} → Walk es given a l b → Each (λ s. In 0 (edge_of s) given) l
walk_edges stay = none
walk_edges (onward i g r) = also i (walk_edges r)

walk_wider : {es : List Simplex} {given wider : List ℕ} {a b : ℕ} {l : List Step} → ((e : ℕ) → In 0 e given → In 0 e wider) → Walk es given a l b → Walk es wider a l b
walk_wider h stay = stay
walk_wider h (onward {e = e} i g r) = onward (h e i) g (walk_wider h r)

-- no edge twice, so no more steps than edges
once_few : {n : ℕ} {w : List Step} → Each (λ s. edge_of s < n) w → EdgesOnce w → length w ≤ n
once_few {n} {w} low once =
    let edges = map edge_of w in
    let low_edges : Each (λ e. e < n) edges = each_map edge_of low in
    let below = at_all (λ v. ltb v n) 0 edges (λ i l. lt-ltb _ _ (each_at 0 low_edges i l)) in
    rw (length-map w edge_of) at (different_few n edges below (at_distinct eqb numbers_equal 0 edges once))

module _ (c : Complex) (accepted : Accepted c) where
  abbrev found : Search
  found = whole_search c.edges c.vertices

  pub accepted_seen : (v : ℕ) → v < c.vertices → listed eqb v found.seen ≡ true
  accepted_seen v h = ((accepted_spans c accepted).reach v).1 (accepted.reached v h)

  -- the search gives parents, and all vertices are of one part
  pub accepted_parents : ParentsOf c.edges found.seen found.tree (parents c)
  unfolding parents
  accepted_parents = search_parents c.edges c.vertices found (accepted_spans c accepted)

  pub accepted_together : (a b : ℕ) → a < c.vertices → b < c.vertices → Together c.edges (parents c) a b
  unfolding parents
  accepted_together a b ha hb = search_together c.edges c.vertices found (accepted_spans c accepted) a b (accepted_seen a ha) (accepted_seen b hb)

  -- ---- the path between two vertices
  pub accepted_path : (a b : ℕ) → a < c.vertices → b < c.vertices → IsPath c.edges (tree_edges c) a b (path c a b)
  unfolding path tree_edges
  accepted_path a b ha hb = tree_path_is c.edges found.seen found.tree (parents c) accepted_parents a b (accepted_seen a ha) (accepted_seen b hb) (accepted_together a b ha hb)

  pub tree_below : (e : ℕ) → In 0 e (tree_edges c) → e < length c.edges
  unfolding tree_edges
  tree_below e (i, l, q) = rw q at ((accepted_spans c accepted).numbered i l)

  -- no more steps than edges
  pub path_few : (a b : ℕ) → a < c.vertices → b < c.vertices → length (path c a b) ≤ length c.edges
  path_few a b ha hb = let p = accepted_path a b ha hb in once_few (each_to (λ s i. tree_below (edge_of s) i) (walk_edges p.walk)) p.once

  -- ---- the loop of a free edge
  pub edge_listed : (e : ℕ) → In 0 e (below (length c.edges)) → e < length c.edges
  edge_listed e (i, l, q) = let k = rw (length_below (length c.edges)) at l in rw (sym q ∙ below_at (length c.edges) i 0 k) k

  listed_edge : (e : ℕ) → e < length c.edges → In 0 e (below (length c.edges))
  listed_edge e h = (e, rw (length_below (length c.edges)) h, below_at (length c.edges) e 0 h)

  pub ends_below : (f : ℕ) → f < length c.edges → (first_end c f < c.vertices) × (second_end c f < c.vertices)
  ends_below f inside = let e = accepted_ends c accepted f inside in (omega (arith, e.0, e.1), e.1)

  module _ (f : ℕ) (free : Member f (free_edges c)) where
    inside : f < length c.edges
    inside = each_member (free_below c) free

    loop_path : IsPath c.edges (tree_edges c) (first_end c f) (second_end c f) (path c (first_end c f) (second_end c f))
    loop_path = let e = ends_below f inside in accepted_path (first_end c f) (second_end c f) e.0 e.1

    -- no tree edge is free
    pub tree_not_free : (e : ℕ) → In 0 e (tree_edges c) → e ≢ f
    tree_not_free e (i, l, q) same = each_member (free_not_tree c) free (rw (q, same) at (place_member 0 (tree_edges c) i l))

    pub loop_fundamental : FundamentalLoop c f (loop_of c f)
    unfolding loop_of
    loop_fundamental =
        record {
          path = path c (first_end c f) (second_end c f);
          is_path = loop_path;
          is = refl;
          closed = walk_append (walk_wider (λ e i. listed_edge e (tree_below e i)) loop_path.walk) (onward (listed_edge f inside) (inr (refl, refl, refl)) stay);
          once =
              ordered_at 0
              (ordered_map edge_of
              (ordered_append (once_simple _ loop_path.once) (before none empty) (each_to (λ s i. also (tree_not_free (edge_of s) i) none) (walk_edges loop_path.walk))));
        }

  -- there is a fundamental loop for each free edge, in their order
  pub loops_fundamental : (j : ℕ) → j < length (free_edges c) → FundamentalLoop c (get_or (free_edges c) j 0) (get_or (fundamental_loops c) j [])
  unfolding fundamental_loops
  loops_fundamental j h = rw (map_at (loop_of c) (free_edges c) j 0 [] h) (loop_fundamental (get_or (free_edges c) j 0) (place_member 0 (free_edges c) j h))

  -- ---- how long the loops are
  loop_few : (f : ℕ) → Member f (free_edges c) → length (loop_of c f) ≤ 63
  loop_few f free =
      let few = accepted.few_edges in
      let l = loop_fundamental f free in
      omega (arith, once_few (each_to (λ s i. edge_listed (edge_of s) i) (walk_edges l.closed)) l.once)

  pub steps_most : (j : ℕ) → j ≤ length (free_edges c) → length (loop_steps c j) ≤ 3969
  steps_most j h =
      let few = accepted.few_edges in
      let some = accepted.some_vertex in
      let count = free_count c accepted in
      let s = steps_few c (λ i k. loop_few (get_or (free_edges c) i 0) (place_member 0 (free_edges c) i k)) j h in
      omega arith
