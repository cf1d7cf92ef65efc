-- A fundamental loop goes over its fundamental cycle backwards: shifting values along the loop takes the cycle off them.
use Prim.Native.Nat.{ℕ, ◌<◌}
use mathlib.Core.List.{List, [], ◌∷◌, ◌++◌}
use mathlib.Core.Bool.{Bool, true, false, cond}
use mathlib.Core.Path.{◌≡◌, refl, sym, ap, ◌∙◌}
use mathlib.Core.Logic.{inl, inr}
use native.Mathlib.Omega.{arith}
use native.Mathlib.Decide.{ℕ_discrete}
use lib.Dec.{eqb}
use lib.IntN.{ℤ, pos, negsuc, neg_ℤ, ◌+ℤ◌, ◌-ℤ◌, +ℤ_idr, +ℤ_invr}
use lib.ListN.{get_or, length, replicate, length-replicate}
use Rattle.mathematics.specs.Counting.{below}
use Rattle.mathematics.specs.Entries.{Each, none, also}
use Rattle.mathematics.specs.Lists.{In}
use Rattle.mathematics.proofs.Below.{listed_member}
use Rattle.mathematics.proofs.Integers.{integral, linear, parts, the, ◌⊞◌, ◌⊟◌, ⊖◌, minus_one_times}
use Rattle.mathematics.proofs.Ordered.{Member, empty, before, each_to, each_both, each_member}
use Rattle.complex.specs.Complex.{Simplex, Complex}
use Rattle.complex.specs.Judge.{Accepted}
use Rattle.gauss_law.specs.Gauss.{flow, gauss}
use Rattle.gauss_law.specs.Listing.{free_edges, Free}
use Rattle.gauss_law.specs.Shifts.{raised, shifted}
use Rattle.gauss_law.proofs.Accepted.{accepted_tree}
use Rattle.gauss_law.proofs.Free.{free_below, determined}
use Rattle.gauss_law.proofs.Gauss.{flow_past}
use Rattle.gauss_law.proofs.Shifts.{shifted_length, shifted_at, shifted_elsewhere, gauss_shifted}
use Rattle.cycles.specs.Cycles.{with_cycle, Cycle}
use Rattle.cycles.proofs.Adding.{added_length, added_at, gauss_closed}
use Rattle.loops.specs.Walks.{Step, edge_of, direction_of, Goes, Walk, stay, onward, shifted_along}
use Rattle.loops.specs.Loops.{first_end, loop_of, FundamentalLoop, Backwards}
use Rattle.loops.proofs.Treads.{Simple, Free-of}
use Rattle.loops.proofs.TreePaths.{once_simple}
use Rattle.loops.proofs.AcceptedLoops.{edge_listed, walk_edges, tree_not_free, loop_fundamental}

-- ---- values shifted along a walk
pub along_length : (l : List Step) (s : List ℤ) → length (shifted_along l s) ≡ length s
unfolding shifted_along
along_length [] s = refl
along_length (t ∷ l) s = along_length l (shifted s (edge_of t) (direction_of t)) ∙ shifted_length s (edge_of t) (direction_of t)

-- an edge that is not gone over keeps its value
pub along_elsewhere : (e : ℕ) {l : List Step} (s : List ℤ) → Free-of e l → get_or (shifted_along l s) e (pos 0) ≡ get_or s e (pos 0)
unfolding shifted_along
along_elsewhere e s none = refl
along_elsewhere e s (also {x = t} n f) = along_elsewhere e (shifted s (edge_of t) (direction_of t)) f ∙ shifted_elsewhere s (edge_of t) (direction_of t) e n

along_append : (l m : List Step) (s : List ℤ) → shifted_along (l ++ m) s ≡ shifted_along m (shifted_along l s)
unfolding shifted_along
along_append [] m s = refl
along_append (t ∷ l) m s = along_append l m (shifted s (edge_of t) (direction_of t))

-- a step takes a unit from the vertex that it leaves to the one it reaches
flow_goes : (e : Simplex) (d : ℤ) (u w v : ℕ) → Goes e d u w → flow e d v ≡ flow (u ∷ w ∷ []) (pos 1) v
unfolding flow
flow_goes e d u w v (inl g) = rw (g.0, g.1, g.2)
flow_goes e d u w v (inr g) = rw (g.0, g.1, g.2) (go (eqb u v) (eqb w v))
  where
    go : (a b : Bool) → cond a (negsuc 0) (pos 0) -ℤ cond b (negsuc 0) (pos 0) ≡ cond b (pos 1) (pos 0) -ℤ cond a (pos 1) (pos 0)
    go true true = refl
    go true false = refl
    go false true = refl
    go false false = refl

-- and so does a walk
gauss_along : (es : List Simplex) (given : List ℕ) → ((e : ℕ) → In 0 e given → e < length es) → {a b : ℕ} {l : List Step} → Walk es given a l b
    → (s : List ℤ) → length s ≡ length es → (v : ℕ) → gauss es (shifted_along l s) v ≡ gauss es s v +ℤ flow (a ∷ b ∷ []) (pos 1) v
unfolding shifted_along flow
gauss_along es given low {a} stay s long v =
    let G = gauss es s v in
    let A = cond (eqb a v) (pos 1) (pos 0) in
    linear (the G) (the G ⊞ (the A ⊟ the A)) (omega arith)
gauss_along es given low (onward {u = u} {v = m} {w = w} {e = e} {d = d} {l = l} i g r) s long v =
    let G = gauss es s v in
    let P = flow (u ∷ m ∷ []) (pos 1) v in
    let Q = flow (m ∷ w ∷ []) (pos 1) v in
    gauss_along es given low r (shifted s e d) (shifted_length s e d ∙ long) v
    ∙ rw (gauss_shifted es s e v d (low e i) long, flow_goes (get_or es e []) d u m v g)
    (linear (the G ⊞ the P ⊞ the Q) (the G ⊞ (the P ⊞ the Q)) (omega arith) ∙ ap (λ x. G +ℤ x) (flow_past u m w (pos 1) v))

-- a walk that uses no edge twice adds the direction of each step on its edge
along_once : {l : List Step} (s : List ℤ) → Simple l → Each (λ t. edge_of t < length s) l
    → Each (λ t. get_or (shifted_along l s) (edge_of t) (pos 0) ≡ get_or s (edge_of t) (pos 0) +ℤ direction_of t) l
unfolding shifted_along raised
along_once s empty none = none
along_once s (before {x = t} {l = l} f o) (also h low) =
    let s' = shifted s (edge_of t) (direction_of t) in
    let low' : Each (λ u. edge_of u < length s') l = each_to (λ u k. rw (shifted_length s (edge_of t) (direction_of t)) k) low in
    also (along_elsewhere (edge_of t) s' f ∙ shifted_at s (edge_of t) (direction_of t) h)
    (each_to (λ u k. k.0 ∙ ap (λ x. x +ℤ direction_of u) (shifted_elsewhere s (edge_of t) (direction_of t) (edge_of u) (λ q. k.1 (sym q)))) (each_both (along_once s' o low') f))

opposite : (b d x : ℤ) → b +ℤ neg_ℤ x ≡ b +ℤ d → x ≡ neg_ℤ d
opposite b d x h = omega (integral, parts (the b ⊞ ⊖ the x), parts (the b ⊞ the d), parts (⊖ the d))

-- ---- the loop of a free edge
module _ (c : Complex) (accepted : Accepted c) (f : ℕ) (free : Member f (free_edges c)) (z : List ℤ) (cycle : Cycle c f z) where
  abbrev loop : FundamentalLoop c f (loop_of c f)
  loop = loop_fundamental c accepted f free

  module _ (s : List ℤ) (long : length s ≡ length c.edges) where
    abbrev walked : List ℤ
    walked = shifted_along (loop_of c f) s

    abbrev taken : List ℤ
    taken = with_cycle s (negsuc 0) z

    as_long : length z ≡ length s
    as_long = cycle.sized ∙ sym long

    taken_at : (e : ℕ) → get_or taken e (pos 0) ≡ get_or s e (pos 0) +ℤ neg_ℤ (get_or z e (pos 0))
    taken_at e = added_at s (negsuc 0) z e as_long ∙ ap (λ x. get_or s e (pos 0) +ℤ x) (minus_one_times (get_or z e (pos 0)))

    -- the path keeps the value of a free edge
    path_keeps : (e : ℕ) → Free c e → get_or (shifted_along loop.path s) e (pos 0) ≡ get_or s e (pos 0)
    path_keeps e h = along_elsewhere e s (each_to (λ t i q. tree_not_free c accepted e (listed_member e (free_edges c) h) (edge_of t) i (sym q)) (walk_edges loop.is_path.walk))

    walked_is : walked ≡ shifted (shifted_along loop.path s) f (negsuc 0)
    unfolding shifted_along
    walked_is = ap (λ l. shifted_along l s) loop.is ∙ along_append loop.path ((f, negsuc 0) ∷ []) s

    agree : (e : ℕ) → Free c e → get_or walked e (pos 0) ≡ get_or taken e (pos 0)
    unfolding raised
    agree e h = go (ℕ_discrete e f)
      where
        inside : f < length (shifted_along loop.path s)
        inside = rw (along_length loop.path s, long) (each_member (free_below c) free)

        go : Dec (e ≡ f) → get_or walked e (pos 0) ≡ get_or taken e (pos 0)
        go (yes q) = rw (walked_is, taken_at e, q, cycle.own, shifted_at (shifted_along loop.path s) f (negsuc 0) inside) (ap (λ x. x +ℤ negsuc 0) (rw q at (path_keeps e h)))
        go (no n) =
            rw (walked_is, taken_at e, cycle.others e h n, shifted_elsewhere (shifted_along loop.path s) f (negsuc 0) e n)
            (path_keeps e h ∙ sym (+ℤ_idr (get_or s e (pos 0))))

    same_sums : (v : ℕ) → v < c.vertices → gauss c.edges walked v ≡ gauss c.edges taken v
    unfolding flow
    same_sums v h =
        gauss_along c.edges (below (length c.edges)) (edge_listed c accepted) loop.closed s long v
        ∙ rw (+ℤ_invr (cond (eqb (first_end c f) v) (pos 1) (pos 0))) (+ℤ_idr (gauss c.edges s v))
        ∙ sym (gauss_closed c.edges s (negsuc 0) z v as_long (cycle.closed v h))

    pub loop_takes_cycle : shifted_along (loop_of c f) s ≡ with_cycle s (negsuc 0) z
    loop_takes_cycle =
        determined c (accepted_tree c accepted) walked taken (along_length (loop_of c f) s ∙ long) (added_length s (negsuc 0) z ∙ long) agree same_sums

  -- so the directions of its steps are the values of the cycle with the other sign
  pub loop_backwards : Backwards (loop_of c f) z
  loop_backwards =
      record {
        steps = each_to (λ t h. opposite (get_or zeros (edge_of t) (pos 0)) (direction_of t) (get_or z (edge_of t) (pos 0)) (sym (walk_at (edge_of t)) ∙ h)) once;
        others = λ e h. let b = get_or zeros e (pos 0) in opposite b (pos 0) (get_or z e (pos 0)) (sym (walk_at e) ∙ along_elsewhere e zeros h ∙ sym (+ℤ_idr b));
      }
    where
      zeros : List ℤ
      zeros = replicate (length c.edges) (pos 0)

      below_zeros : Each (λ t. edge_of t < length zeros) (loop_of c f)
      below_zeros = each_to (λ t i. rw (length-replicate (length c.edges) (pos 0)) (edge_listed c accepted (edge_of t) i)) (walk_edges loop.closed)

      once : Each (λ t. get_or (shifted_along (loop_of c f) zeros) (edge_of t) (pos 0) ≡ get_or zeros (edge_of t) (pos 0) +ℤ direction_of t) (loop_of c f)
      once = along_once zeros (once_simple (loop_of c f) loop.once) below_zeros

      walk_at : (e : ℕ) → get_or (shifted_along (loop_of c f) zeros) e (pos 0) ≡ get_or zeros e (pos 0) +ℤ neg_ℤ (get_or z e (pos 0))
      walk_at e = rw (loop_takes_cycle zeros (length-replicate (length c.edges) (pos 0))) (taken_at zeros (length-replicate (length c.edges) (pos 0)) e)
