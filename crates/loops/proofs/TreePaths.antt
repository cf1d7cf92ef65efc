-- The path in a tree is a walk over tree edges that uses no edge twice, and every other such walk is the same.
use Prim.Native.Nat.{ℕ, zero, suc, ◌+◌, ◌<◌, ◌≤◌}
use mathlib.Core.List.{List, [], ◌∷◌, ◌++◌}
use mathlib.Core.Bool.{true, false}
use mathlib.Core.Path.{◌≡◌, refl, sym, ap, ◌∙◌, subst}
use mathlib.Core.Logic.{inl, inr, ◌≢◌}
use native.Mathlib.Omega.{arith}
use native.Mathlib.Decide.{ℕ_discrete, dec_lt}
use borrow.Author.Tests.{eq-eqb, ne_eqb, lt-ltb, le-ltb}
use lib.Dec.{eqb}
use lib.IntN.{ℤ, pos}
use lib.ListN.{get_or, length-map}
use Rattle.cycles.proofs.PathTables.{joins_back}
use Rattle.mathematics.specs.Lists.{listed, In}
use Rattle.mathematics.specs.Entries.{Each, none, also}
use Rattle.mathematics.proofs.Ordered.{empty, before, each_to, each_append, each_parts, ordered_append, ordered_parts, ordered_map, ordered_at, at_ordered}
use Rattle.mathematics.proofs.Below.{map_at}
use Rattle.complex.specs.Complex.{Simplex, start, Joins}
use Rattle.loops.specs.Parents.{Parents, ParentsOf, parent, Under, itself, above, Together, leaving, step_from, climb, tree_path}
use Rattle.loops.specs.Walks.{Step, edge_of, Goes, Walk, stay, onward, EdgesOnce, IsPath}
use Rattle.loops.proofs.Treads.{Simple, Free-of, walk_append, parent_earlier, parent_other, first_up, last_down}

pub once_simple : (w : List Step) → EdgesOnce w → Simple w
once_simple w once =
    at_ordered (0, pos 0) w
    (λ i j l m q. once i j l (rw (length-map w edge_of) m) (map_at edge_of w i (0, pos 0) 0 (omega arith) ∙ q ∙ sym (map_at edge_of w j (0, pos 0) 0 m)))

-- a walk has no step, or a first one
data Split (es : List Simplex) (tree : List ℕ) (a b : ℕ) : List Step → Type 0 where
  nowhere : a ≡ b → Split es tree a b []
  begins : {v e : ℕ} {d : ℤ} {l : List Step} → In 0 e tree → Goes (get_or es e []) d a v → Walk es tree v l b → Split es tree a b ((e, d) ∷ l)

split : {es : List Simplex} {tree : List ℕ} {a b : ℕ} {w : List Step} → Walk es tree a w b → Split es tree a b w
split stay = nowhere refl
split (onward i g r) = begins i g r

-- ---- the cases of a climb
module _ (es : List Simplex) (p : Parents) (k a b : ℕ) where
  pub climb_met : a ≡ b → climb es p k a b ≡ []
  unfolding climb
  climb_met e = go k
    where
      go : (k : ℕ) → climb es p k a b ≡ []
      go zero = refl
      go (suc k) = rw (eq-eqb a b e)

  module _ (apart : a ≢ b) where
    pub climb_up : p.place b < p.place a → climb es p (suc k) a b ≡ step_from es (p.edge a) a ∷ climb es p k (parent es p a) b
    unfolding climb
    climb_up h = rw (ne_eqb a b apart, lt-ltb _ _ h)

    pub climb_down : p.place a ≤ p.place b → climb es p (suc k) a b ≡ climb es p k a (parent es p b) ++ (step_from es (p.edge b) (parent es p b) ∷ [])
    unfolding climb
    climb_down h = rw (ne_eqb a b apart, le-ltb _ _ h)

module _ (es : List Simplex) (seen tree : List ℕ) (p : Parents) (good : ParentsOf es seen tree p) where
  abbrev Seen : ℕ → Type 0
  Seen v = listed eqb v seen ≡ true

  -- of two places the lower
  lower_place : {a b : ℕ} → Seen a → Seen b → a ≢ b → p.place a ≤ p.place b → p.place a < p.place b
  lower_place {a} {b} sa sb n h =
      let differ : p.place a ≢ p.place b = λ q. n (good.apart a b sa sb q) in
      omega arith

  -- ---- the only one
  -- a walk without repeats that ends where it began has no step
  closed_empty : (a : ℕ) {w : List Step} → Seen a → Split es tree a a w → Simple w → w ≡ []
  closed_empty a sa (nowhere q) o = refl
  closed_empty a sa (begins {v = v} {e = e} {d = d} {l = l} i g r) (before f o) =
      let u = first_up es seen tree p good a v a e d l i g r f o (omega arith) in
      absurd (go (split r) f o (ap (λ t. t.0) u.1) u.2 u.0)
    where
      go : {l : List Step} → Split es tree v a l → Free-of e l → Simple l → e ≡ p.edge a → v ≡ parent es p a → p.root a ≡ false → ⊥
      go (nowhere q) f o own is n = parent_other es seen tree p good sa n (sym is ∙ q)
      go (begins {e = e'} {d = d'} i' g' r) f (before fs o) own is n =
          let low = parent_earlier es seen tree p good sa n is in
          let w = last_down es seen tree p good v e' d' i' g' r fs o (omega arith) in
          last (each_parts w.walk (subst (λ l. Free-of e l) w.is f)).1
        where
          last : Free-of e (step_from es (p.edge a) (parent es p a) ∷ []) → ⊥
          last (also z n) = z own

  met_walk : (k a b : ℕ) {w : List Step} → a ≡ b → Seen a → Walk es tree a w b → Simple w → w ≡ climb es p k a b
  met_walk k a b q sa r o = closed_empty a sa (split (rw (sym q) at r)) o ∙ sym (climb_met es p k a b q)

  only_walk : (k a b : ℕ) (w : List Step) → p.place a + p.place b ≤ k → Seen a → Seen b → Walk es tree a w b → Simple w → w ≡ climb es p k a b
  only_walk zero a b w h sa sb r o = met_walk zero a b (good.apart a b sa sb (omega arith)) sa r o
  only_walk (suc k) a b w h sa sb r o = go (ℕ_discrete a b) (dec_lt (p.place b) (p.place a)) (only_walk k)
    where
      go : Dec (a ≡ b) → Dec (p.place b < p.place a)
          → ((a b : ℕ) (w : List Step) → p.place a + p.place b ≤ k → Seen a → Seen b → Walk es tree a w b → Simple w → w ≡ climb es p k a b)
          → w ≡ climb es p (suc k) a b
      go (yes q) dec ih = met_walk (suc k) a b q sa r o
      go (no n) (yes l) ih = cases (split r) o ∙ sym (climb_up es p k a b n l)
        where
          cases : {w : List Step} → Split es tree a b w → Simple w → w ≡ step_from es (p.edge a) a ∷ climb es p k (parent es p a) b
          cases (nowhere q) o = absurd (n q)
          cases (begins {v = v} {e = e} {d = d} {l = m} i g r) (before f o) =
              let u = first_up es seen tree p good a v b e d m i g r f o (omega arith) in
              let low = good.earlier a sa u.0 in
              let rest : m ≡ climb es p k (parent es p a) b = ih (parent es p a) b m (omega arith) (good.parent_seen a sa u.0) sb (subst (λ x. Walk es tree x m b) u.2 r) o in
              λ t. u.1 t ∷ rest t
      go (no n) (no l) ih = cases (split r) o ∙ sym (climb_down es p k a b n (omega arith))
        where
          cases : {w : List Step} → Split es tree a b w → Simple w → w ≡ climb es p k a (parent es p b) ++ (step_from es (p.edge b) (parent es p b) ∷ [])
          cases (nowhere q) o = absurd (n q)
          cases (begins {v = v} {e = e} {d = d} {l = m} i g r) (before f o) =
              let x = last_down es seen tree p good a e d i g r f o (omega arith) in
              let low = good.earlier b sb x.under in
              let simple : Simple x.walk = (ordered_parts x.walk (subst Simple x.is (before f o))).0 in
              let front : x.walk ≡ climb es p k a (parent es p b) = ih a (parent es p b) x.walk (omega arith) sa (good.parent_seen b sb x.under) x.leads simple in
              x.is ∙ ap (λ l. l ++ (step_from es (p.edge b) (parent es p b) ∷ [])) front

  -- ---- it is one
  goes_from : (s : Simplex) (u v : ℕ) → u ≢ v → Joins s u v → Goes s (leaving s u) u v
  goes_from s u v n (inl j) = inl (rw (eq-eqb (start s) u j.0), j.0, j.1)
  goes_from s u v n (inr j) = inr (rw (ne_eqb (start s) u (λ q. n (sym q ∙ j.0))), j.0, j.1)

  -- an edge led to one vertex only
  led_once : (a b : ℕ) → Seen a → Seen b → p.root a ≡ false → p.root b ≡ false → p.edge a ≡ p.edge b → a ≡ b
  led_once a b sa sb na nb q =
      let low = good.earlier a sa na in
      let low' = good.earlier b sb nb in
      go low low' (good.joins a sa na) (subst (λ e. Joins (get_or es e []) (parent es p b) b) (sym q) (good.joins b sb nb))
    where
      go : p.place (parent es p a) < p.place a → p.place (parent es p b) < p.place b
          → Joins (get_or es (p.edge a) []) (parent es p a) a → Joins (get_or es (p.edge a) []) (parent es p b) b → a ≡ b
      go l m (inl i) (inl j) = sym i.1 ∙ j.1
      go l m (inr i) (inr j) = sym i.0 ∙ j.0
      go l m (inl i) (inr j) =
          let x : p.place (parent es p a) ≡ p.place b = ap p.place (sym i.0 ∙ j.0) in
          let y : p.place a ≡ p.place (parent es p b) = ap p.place (sym i.1 ∙ j.1) in
          absurd (omega arith)
      go l m (inr i) (inl j) =
          let x : p.place (parent es p a) ≡ p.place b = ap p.place (sym i.1 ∙ j.1) in
          let y : p.place a ≡ p.place (parent es p b) = ap p.place (sym i.0 ∙ j.0) in
          absurd (omega arith)

  -- the edge led to a vertex that was found before place m
  record Low (m e : ℕ) : Type 0 where
    vertex : ℕ
    found : Seen vertex
    under : p.root vertex ≡ false
    is : p.edge vertex ≡ e
    low : p.place vertex < m

  record Climbed (m a b : ℕ) (w : List Step) : Type 0 where
    walk : Walk es tree a w b
    simple : Simple w
    low : Each (λ t. Low m t.0) w

  lower : {m n e : ℕ} → m ≤ n → Low m e → Low n e
  lower h l = let k = l.low in record { vertex = l.vertex; found = l.found; under = l.under; is = l.is; low = omega arith }

  high : (a e : ℕ) → Seen a → p.root a ≡ false → Low (p.place a) e → p.edge a ≢ e
  high a e sa na l q =
      let z : p.place a ≡ p.place l.vertex = ap p.place (led_once a l.vertex sa l.found na l.under (q ∙ sym l.is)) in
      let k = l.low in
      omega arith

  -- ---- parts
  under_before : {a r : ℕ} → Seen a → Under es p a r → p.place r ≤ p.place a
  under_before sa (itself t) = omega arith
  under_before {a} sa (above n u) =
      let low = good.earlier a sa n in
      let k = under_before (good.parent_seen a sa n) u in
      omega arith

  -- what is found later than another of its part is no root, and its parent is of that part
  later_under : {a r : ℕ} (b : ℕ) → Seen b → p.place b < p.place a → Under es p b r → Under es p a r → (p.root a ≡ false) × Under es p (parent es p a) r
  later_under b sb h ub (itself t) = let k = under_before sb ub in absurd (omega arith)
  later_under b sb h ub (above n u) = (n, u)

  met_climbed : (k a b m : ℕ) → a ≡ b → Climbed m a b (climb es p k a b)
  met_climbed k a b m q = rw (climb_met es p k a b q) (subst (λ x. Climbed m a x []) q (record { walk = stay; simple = empty; low = none }))

  climbed : (k a b m : ℕ) → p.place a + p.place b ≤ k → p.place a < m → p.place b < m → Seen a → Seen b → Together es p a b → Climbed m a b (climb es p k a b)
  climbed zero a b m h la lb sa sb t = met_climbed zero a b m (good.apart a b sa sb (omega arith))
  climbed (suc k) a b m h la lb sa sb t = go (ℕ_discrete a b) (dec_lt (p.place b) (p.place a)) (climbed k)
    where
      go : Dec (a ≡ b) → Dec (p.place b < p.place a)
          → ((a b m : ℕ) → p.place a + p.place b ≤ k → p.place a < m → p.place b < m → Seen a → Seen b → Together es p a b → Climbed m a b (climb es p k a b))
          → Climbed m a b (climb es p (suc k) a b)
      go (yes q) dec ih = met_climbed (suc k) a b m q
      go (no n) (yes l) ih =
          let u = later_under b sb l t.2 t.1 in
          let low = good.earlier a sa u.0 in
          let r = ih (parent es p a) b (p.place a) (omega arith) low l (good.parent_seen a sa u.0) sb (t.0, u.1, t.2) in
          let E = get_or es (p.edge a) [] in
          let up = joins_back E (parent es p a) a (good.joins a sa u.0) in
          rw (climb_up es p k a b n l)
          (record {
            walk = onward (good.edge a sa u.0) (goes_from E a (parent es p a) (λ q. parent_other es seen tree p good sa u.0 (sym q)) up) r.walk;
            simple = before (each_to (λ s y. high a s.0 sa u.0 y) r.low) r.simple;
            low = also (record { vertex = a; found = sa; under = u.0; is = refl; low = la }) (each_to (λ s y. lower (omega arith) y) r.low);
          })
      go (no n) (no l) ih =
          let l' = lower_place sa sb n (omega arith) in
          let u = later_under a sa l' t.1 t.2 in
          let low = good.earlier b sb u.0 in
          let r = ih a (parent es p b) (p.place b) (omega arith) l' low sa (good.parent_seen b sb u.0) (t.0, t.1, u.1) in
          rw (climb_down es p k a b n (omega arith))
          (record {
            walk = walk_append r.walk (onward (good.edge b sb u.0) (goes_from (get_or es (p.edge b) []) (parent es p b) b (parent_other es seen tree p good sb u.0) (good.joins b sb u.0)) stay);
            simple = ordered_append r.simple (before none empty) (each_to (λ s y. also (λ q. high b s.0 sb u.0 y (sym q)) none) r.low);
            low = each_append (each_to (λ s y. lower (omega arith) y) r.low) (also (record { vertex = b; found = sb; under = u.0; is = refl; low = lb }) none);
          })

  -- between two vertices of one part
  pub tree_path_is : (a b : ℕ) → Seen a → Seen b → Together es p a b → IsPath es tree a b (tree_path es p a b)
  unfolding tree_path
  tree_path_is a b sa sb t =
      let k = p.place a + p.place b in
      let r = climbed k a b (suc k) (omega arith) (omega arith) (omega arith) sa sb t in
      record {
        walk = r.walk;
        once = ordered_at 0 (ordered_map edge_of r.simple);
        only = λ w walk once. only_walk k a b w (omega arith) sa sb walk (once_simple w once);
      }

  -- ---- a step at either end
  enough : (k a b : ℕ) → p.place a + p.place b ≤ k → Seen a → Seen b → Together es p a b → climb es p k a b ≡ tree_path es p a b
  unfolding tree_path
  enough k a b h sa sb t =
      let r = climbed k a b (suc (p.place a + p.place b)) h (omega arith) (omega arith) sa sb t in
      only_walk (p.place a + p.place b) a b (climb es p k a b) (omega arith) sa sb r.walk r.simple

  pub tree_path_met : (a : ℕ) → tree_path es p a a ≡ []
  unfolding tree_path
  tree_path_met a = climb_met es p (p.place a + p.place a) a a refl

  module _ (a b : ℕ) (sa : Seen a) (sb : Seen b) (t : Together es p a b) (apart : a ≢ b) where
    -- a was found later
    pub later_climbs : p.place b < p.place a → (p.root a ≡ false) × (tree_path es p a b ≡ step_from es (p.edge a) a ∷ tree_path es p (parent es p a) b)
    later_climbs l =
        let u = later_under b sb l t.2 t.1 in
        let low = good.earlier a sa u.0 in
        let k = p.place a + p.place b in (
          u.0,
          sym (enough (suc k) a b (omega arith) sa sb t)
              ∙ climb_up es p k a b apart l
              ∙ ap (λ m. step_from es (p.edge a) a ∷ m) (enough k (parent es p a) b (omega arith) (good.parent_seen a sa u.0) sb (t.0, u.1, t.2)),
        )

    -- b was found later
    pub later_reached : p.place a ≤ p.place b → (p.root b ≡ false) × (tree_path es p a b ≡ tree_path es p a (parent es p b) ++ (step_from es (p.edge b) (parent es p b) ∷ []))
    later_reached l =
        let u = later_under a sa (lower_place sa sb apart l) t.1 t.2 in
        let low = good.earlier b sb u.0 in
        let k = p.place a + p.place b in (
          u.0,
          sym (enough (suc k) a b (omega arith) sa sb t)
              ∙ climb_down es p k a b apart l
              ∙ ap (λ m. m ++ (step_from es (p.edge b) (parent es p b) ∷ [])) (enough k a (parent es p b) (omega arith) sa (good.parent_seen b sb u.0) (t.0, t.1, u.1)),
        )
