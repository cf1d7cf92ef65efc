-- The paths in the tree, vertex by vertex as it was found, and the fundamental cycles that they give.
use Prim.Native.Nat.{ℕ, suc, ◌≤◌, ◌<◌}
use mathlib.Core.List.{List, [], ◌∷◌}
use mathlib.Core.Bool.{Bool, true, false, cond}
use mathlib.Core.Path.{◌≡◌, refl, sym, ◌∙◌, ap}
use mathlib.Core.Logic.{◌≢◌, ◌⊎◌, inl, inr}
use native.Mathlib.Omega.{arith}
use native.Mathlib.Decide.{ℕ_discrete}
use lib.Dec.{eqb}
use lib.IntN.{ℤ, pos, negsuc, ◌+ℤ◌, ◌-ℤ◌, neg_ℤ, nat_abs, +ℤ_invr}
use lib.ListN.{get_or, length, set, length-set, replicate, length-replicate}
use lib.Seq.{get_or-set_same, get_or-set_other, set-get_or}
use borrow.Author.Tests.{eq-eqb, ne_eqb}
use Rattle.mathematics.proofs.Integers.{positive, negative, integral, linear, parts, parts_size, one_part, the, nought, ◌⊞◌, ◌⊟◌, ⊖◌, minus_one_times}
use Rattle.mathematics.proofs.Ordered.{Member, each_member, member_place, place_member, ordered_at}
use Rattle.mathematics.proofs.Below.{listed_member}
use Rattle.complex.specs.Complex.{Simplex, Complex, Joins, start, end}
use Rattle.complex.specs.Judge.{Accepted}
use Rattle.complex.specs.Search.{Search, whole_search, SpansReached}
use Rattle.gauss_law.specs.Gauss.{flow, gauss}
use Rattle.gauss_law.specs.Listing.{tree_edges, free_edges}
use Rattle.cycles.specs.Cycles.{with_cycle, toward, Cycle, Paths}
use Rattle.gauss_law.proofs.Gauss.{gauss_set}
use Rattle.gauss_law.proofs.Tree.{spans_solvable}
use Rattle.gauss_law.proofs.Free.{free_below, free_not_tree}
use Rattle.gauss_law.proofs.Accepted.{accepted_ends, accepted_spans}
use Rattle.cycles.proofs.Adding.{added_at, added_length, gauss_added, zeros_at, gauss_zeros}

-- ---- one edge more
pick_minus : (b : Bool) → cond b (negsuc 0) (pos 0) ≡ neg_ℤ (cond b (pos 1) (pos 0))
pick_minus true = refl
pick_minus false = refl

-- a unit over the edge from p to w, whichever way it is listed
flow_onward : (E : Simplex) (p w v : ℕ) → p ≢ w → Joins E p w → flow (0 ∷ p ∷ []) (pos 1) v +ℤ flow E (toward E w) v ≡ flow (0 ∷ w ∷ []) (pos 1) v
unfolding flow toward
flow_onward E p w v n (inl j) =
    let Z = cond (eqb 0 v) (pos 1) (pos 0) in
    let A = cond (eqb p v) (pos 1) (pos 0) in
    let B = cond (eqb w v) (pos 1) (pos 0) in
    rw (eq-eqb (end E) w j.1, j.0, j.1) (linear (the A ⊟ the Z ⊞ (the B ⊟ the A)) (the B ⊟ the Z) (omega arith))
flow_onward E p w v n (inr j) =
    let Z = cond (eqb 0 v) (pos 1) (pos 0) in
    let A = cond (eqb p v) (pos 1) (pos 0) in
    let B = cond (eqb w v) (pos 1) (pos 0) in
    rw (j.0, j.1, ne_eqb p w n, pick_minus (eqb p v), pick_minus (eqb w v)) (linear (the A ⊟ the Z ⊞ (⊖ the A ⊟ ⊖ the B)) (the B ⊟ the Z) (omega arith))

toward_small : (E : Simplex) (w : ℕ) → nat_abs (toward E w) ≤ 1
unfolding toward
toward_small E w = go (eqb (end E) w)
  where
    go : (b : Bool) → nat_abs (cond b (pos 1) (negsuc 0)) ≤ 1
    go true = omega arith
    go false = omega arith

-- two of 0 and u
differ : (u x y : ℤ) → nat_abs u ≤ 1 → (x ≡ pos 0) ⊎ (x ≡ u) → (y ≡ pos 0) ⊎ (y ≡ u) → nat_abs (x -ℤ y) ≤ 1
unfolding positive negative
differ u x y h (inl a) (inl b) = omega (integral, parts_size (x -ℤ y), one_part (x -ℤ y), parts (the x ⊟ the y))
differ u x y h (inl a) (inr b) = omega (integral, parts_size u, one_part u, parts_size (x -ℤ y), one_part (x -ℤ y), parts (the x ⊟ the y))
differ u x y h (inr a) (inl b) = omega (integral, parts_size u, one_part u, parts_size (x -ℤ y), one_part (x -ℤ y), parts (the x ⊟ the y))
differ u x y h (inr a) (inr b) = omega (integral, parts_size (x -ℤ y), one_part (x -ℤ y), parts (the x ⊟ the y))

-- an entry that is zero may be set to zero
set_zero : (z : List ℤ) (e : ℕ) → get_or z e (pos 0) ≡ pos 0 → set z e (pos 0) ≡ z
set_zero z e h = ap (λ x. set z e x) (sym h) ∙ set-get_or z e (pos 0)

module _ (es : List Simplex) (n : ℕ) (s : Search) (spans : SpansReached es n s) where
  -- the path to the vertex found next: that to its parent, and the edge between
  module _ (k : ℕ) (more : k < length s.tree) (path new : ℕ → List ℤ) (paths : Paths es s k path) (h : ℕ) (older : h ≤ k)
      (joined : Joins (get_or es (get_or s.tree k 0) []) (get_or s.seen h 0) (get_or s.seen (suc k) 0))
      (made : new (get_or s.seen (suc k) 0) ≡ set (path (get_or s.seen h 0)) (get_or s.tree k 0) (toward (get_or es (get_or s.tree k 0) []) (get_or s.seen (suc k) 0)))
      (kept : (i : ℕ) → i ≤ k → new (get_or s.seen i 0) ≡ path (get_or s.seen i 0)) where
    abbrev vertex : ℕ → ℕ
    vertex i = get_or s.seen i 0

    abbrev edge : ℕ
    edge = get_or s.tree k 0

    abbrev unit : ℤ
    unit = toward (get_or es edge []) (vertex (suc k))

    inside : edge < length es
    inside = spans.numbered k more

    apart : (i : ℕ) → i ≤ k → vertex i ≢ vertex (suc k)
    apart i l = spans.apart i (suc k) (omega arith) (omega (arith, spans.sizes))

    -- the edge is new
    fresh : (i : ℕ) → i < k → get_or s.tree i 0 ≢ edge
    fresh i l = ordered_at 0 (spans_solvable es n s spans).once i k l more

    -- the path to the i-th vertex is an old one, but for the new edge
    record From (i : ℕ) : Type 0 where
      old : ℕ
      known : old ≤ k
      sized : length (new (vertex i)) ≡ length es
      others : (e : ℕ) → e ≢ edge → get_or (new (vertex i)) e (pos 0) ≡ get_or (path (vertex old)) e (pos 0)
      own : (get_or (new (vertex i)) edge (pos 0) ≡ pos 0) ⊎ (get_or (new (vertex i)) edge (pos 0) ≡ unit)

    from : (i : ℕ) → i ≤ suc k → From i
    from i l = go (ℕ_discrete i (suc k))
      where
        go : Dec (i ≡ suc k) → From i
        go (yes e) =
            rw e
            (record {
              old = h;
              known = older;
              sized = rw made (length-set (path (vertex h)) edge unit ∙ paths.sized h older);
              others = λ d m. rw made (get_or-set_other (path (vertex h)) edge d unit (pos 0) m);
              own = inr (rw made (get_or-set_same (path (vertex h)) edge unit (pos 0) (omega (arith, inside, paths.sized h older))));
            })
        go (no m) =
            let known : i ≤ k = omega arith in
            let same : new (vertex i) ≡ path (vertex i) = kept i known in
            record {
              old = i;
              known = known;
              sized = rw same (paths.sized i known);
              others = λ d n. rw same;
              own = inl (rw same (paths.unused i known edge fresh));
            }

    pub path_more : Paths es s (suc k) new
    path_more =
        record {
          sized = λ i l. (from i l).sized;
          sums = λ i l v. sum i v (ℕ_discrete i (suc k)) l;
          signs = λ i j a b e. sign (from i a) (from j b) e (ℕ_discrete e edge);
          unused =
              λ i l e f.
              let r = from i l in
              r.others e (λ q. f k (omega arith) (sym q)) ∙ paths.unused r.old r.known e (λ j m. f j (omega arith));
        }
      where
        sum : (i v : ℕ) → Dec (i ≡ suc k) → i ≤ suc k → gauss es (new (vertex i)) v ≡ flow (0 ∷ vertex i ∷ []) (pos 1) v
        sum i v (yes e) l =
            rw (e, made)
            (gauss_set es (path (vertex h)) edge v unit inside (paths.sized h older)
            ∙ rw (set_zero (path (vertex h)) edge (paths.unused h older edge fresh), paths.sums h older v)
            (flow_onward (get_or es edge []) (vertex h) (vertex (suc k)) v (apart h older) joined))
        sum i v (no m) l = rw (kept i (omega arith)) (paths.sums i (omega arith) v)

        sign : {i j : ℕ} → From i → From j → (e : ℕ) → Dec (e ≡ edge) → nat_abs (get_or (new (vertex i)) e (pos 0) -ℤ get_or (new (vertex j)) e (pos 0)) ≤ 1
        sign {i} {j} a b e (yes q) = rw q (differ unit (get_or (new (vertex i)) edge (pos 0)) (get_or (new (vertex j)) edge (pos 0)) (toward_small (get_or es edge []) (vertex (suc k))) a.own b.own)
        sign a b e (no m) = rw (a.others e m, b.others e m) (paths.signs a.old b.old a.known b.known e)

  -- ---- the path to vertex 0 has no edge
  pub path_none : (path : ℕ → List ℤ) → path 0 ≡ replicate (length es) (pos 0) → Paths es s 0 path
  unfolding flow
  path_none path none =
      record {
        sized = λ k l. rw (zeros k l) (length-replicate (length es) (pos 0));
        sums = λ k l v. rw (zeros k l, root k l) (gauss_zeros es (length es) v ∙ sym (+ℤ_invr (cond (eqb 0 v) (pos 1) (pos 0))));
        signs = λ j k a b e. rw (zeros j a, zeros k b, zeros_at (length es) e) (omega arith);
        unused = λ k l e f. rw (zeros k l) (zeros_at (length es) e);
      }
    where
      root : (k : ℕ) → k ≤ 0 → get_or s.seen k 0 ≡ 0
      root k l = let z : k ≡ 0 = omega arith in rw z spans.root

      zeros : (k : ℕ) → k ≤ 0 → path (get_or s.seen k 0) ≡ replicate (length es) (pos 0)
      zeros k l = rw (root k l) none

-- every vertex was found
pub found : (c : Complex) → Accepted c → (v : ℕ) → v < c.vertices → (k : ℕ) × (k ≤ length (tree_edges c)) × (get_or (whole_search c.edges c.vertices).seen k 0 ≡ v)
unfolding tree_edges
found c accepted v h =
    let spans = accepted_spans c accepted in
    let r = member_place 0 (listed_member v (whole_search c.edges c.vertices).seen ((spans.reach v).1 (accepted.reached v h))) in
    (r.0, omega (arith, r.1, spans.sizes), r.2)

-- ---- the cycle of a free edge: the path to its start, the edge, and the path to its end backwards
module _ (c : Complex) (accepted : Accepted c) (path : ℕ → List ℤ) (paths : Paths c.edges (whole_search c.edges c.vertices) (length (tree_edges c)) path) (f : ℕ) (free : Member f (free_edges c)) where
  abbrev ends : Simplex
  ends = get_or c.edges f []

  abbrev difference : List ℤ
  difference = with_cycle (path (start ends)) (negsuc 0) (path (end ends))

  inside_edges : f < length c.edges
  inside_edges = each_member (free_below c) free

  first : start ends < c.vertices
  first = let r = accepted_ends c accepted f inside_edges in omega (arith, r.0, r.1)

  second : end ends < c.vertices
  second = (accepted_ends c accepted f inside_edges).1

  path_sized : (v : ℕ) → v < c.vertices → length (path v) ≡ length c.edges
  path_sized v h = let r = found c accepted v h in rw r.2 at (paths.sized r.0 r.1)

  path_sum : (v u : ℕ) → v < c.vertices → gauss c.edges (path v) u ≡ flow (0 ∷ v ∷ []) (pos 1) u
  path_sum v u h = let r = found c accepted v h in rw r.2 at (paths.sums r.0 r.1 u)

  -- no free edge is on a path
  path_free : (v e : ℕ) → v < c.vertices → Member e (free_edges c) → get_or (path v) e (pos 0) ≡ pos 0
  unfolding tree_edges
  path_free v e h m =
      let r = found c accepted v h in
      rw r.2 at (paths.unused r.0 r.1 e (λ i l q. each_member (free_not_tree c) m (rw q at (place_member 0 (tree_edges c) i l))))

  same_length : length (path (end ends)) ≡ length (path (start ends))
  same_length = path_sized (end ends) second ∙ sym (path_sized (start ends) first)

  long : length difference ≡ length c.edges
  long = added_length (path (start ends)) (negsuc 0) (path (end ends)) ∙ path_sized (start ends) first

  difference_at : (e : ℕ) → get_or difference e (pos 0) ≡ get_or (path (start ends)) e (pos 0) -ℤ get_or (path (end ends)) e (pos 0)
  difference_at e =
      added_at (path (start ends)) (negsuc 0) (path (end ends)) e same_length
      ∙ ap (λ x. get_or (path (start ends)) e (pos 0) +ℤ x) (minus_one_times (get_or (path (end ends)) e (pos 0)))

  difference_free : (e : ℕ) → Member e (free_edges c) → get_or difference e (pos 0) ≡ pos 0
  difference_free e m = rw (difference_at e, path_free (start ends) e first m, path_free (end ends) e second m)

  pub fundamental : Cycle c f (set difference f (pos 1))
  unfolding flow
  fundamental =
      record {
        sized = length-set difference f (pos 1) ∙ long;
        closed = λ v h. closed v;
        own = get_or-set_same difference f (pos 1) (pos 0) (omega (arith, inside_edges, long));
        others = λ e m n. get_or-set_other difference f e (pos 1) (pos 0) n ∙ difference_free e (listed_member e (free_edges c) m);
        signs = λ e. sign e (ℕ_discrete e f);
      }
    where
      turn : (v : ℕ) → flow (0 ∷ start ends ∷ []) (pos 1) v +ℤ neg_ℤ (flow (0 ∷ end ends ∷ []) (pos 1) v) +ℤ flow ends (pos 1) v ≡ pos 0
      turn v =
          let Z = cond (eqb 0 v) (pos 1) (pos 0) in
          let A = cond (eqb (start ends) v) (pos 1) (pos 0) in
          let B = cond (eqb (end ends) v) (pos 1) (pos 0) in
          linear (the A ⊟ the Z ⊟ (the B ⊟ the Z) ⊞ (the B ⊟ the A)) nought (omega arith)

      closed : (v : ℕ) → gauss c.edges (set difference f (pos 1)) v ≡ pos 0
      closed v =
          gauss_set c.edges difference f v (pos 1) inside_edges long
          ∙ rw (
            set_zero difference f (difference_free f free),
            gauss_added c.edges (path (start ends)) (negsuc 0) (path (end ends)) v same_length,
            path_sum (start ends) v first,
            path_sum (end ends) v second,
            minus_one_times (flow (0 ∷ end ends ∷ []) (pos 1) v),
          ) (turn v)

      sign : (e : ℕ) → Dec (e ≡ f) → nat_abs (get_or (set difference f (pos 1)) e (pos 0)) ≤ 1
      sign e (yes q) = rw (q, get_or-set_same difference f (pos 1) (pos 0) (omega (arith, inside_edges, long))) (omega arith)
      sign e (no n) =
          let a = found c accepted (start ends) first in
          let b = found c accepted (end ends) second in
          rw (get_or-set_other difference f e (pos 1) (pos 0) n, difference_at e) (rw (a.2, b.2) at (paths.signs a.0 b.0 a.1 b.1 e))
