-- A step over a tree edge goes to the parent or comes from it; what follows for walks that use no edge twice.
use Prim.Native.Nat.{ℕ, ◌<◌, ◌≤◌}
use mathlib.Core.List.{List, [], ◌∷◌, ◌++◌}
use mathlib.Core.Bool.{true, false}
use mathlib.Core.Path.{◌≡◌, sym, ap, ◌∙◌, subst}
use mathlib.Core.Logic.{◌⊎◌, inl, inr, ◌≢◌}
use native.Mathlib.Omega.{arith}
use native.Mathlib.Decide.{dec_lt}
use borrow.Author.Tests.{eq-eqb, ne_eqb}
use lib.Dec.{eqb}
use lib.IntN.{ℤ}
use lib.ListN.{get_or}
use Rattle.mathematics.specs.Lists.{listed, In}
use Rattle.mathematics.specs.Entries.{Each, also}
use Rattle.mathematics.proofs.Ordered.{Ordered, before}
use Rattle.complex.specs.Complex.{Simplex, start, Joins}
use Rattle.loops.specs.Parents.{Parents, ParentsOf, parent, leaving, step_from}
use Rattle.loops.specs.Walks.{Step, Goes, Walk, stay, onward}

-- no edge twice
abbrev pub Simple : List Step → Type 0
Simple w = Ordered (λ s t. s.0 ≢ t.0) w

-- no step goes over edge e
abbrev pub Free-of : ℕ → List Step → Type 0
Free-of e w = Each (λ t. e ≢ t.0) w

pub walk_append : {es : List Simplex} {tree : List ℕ} {a b c : ℕ} {l m : List Step} → Walk es tree a l b → Walk es tree b m c → Walk es tree a (l ++ m) c
walk_append stay k = k
walk_append (onward i g r) k = onward i g (walk_append r k)

module _ (es : List Simplex) (seen tree : List ℕ) (p : Parents) (good : ParentsOf es seen tree p) where
  abbrev pub Seen : ℕ → Type 0
  Seen v = listed eqb v seen ≡ true

  -- a step goes up to the parent of the vertex that it leaves, or down to a vertex whose parent that is
  pub data Tread (u : ℕ) (s : Step) (v : ℕ) : Type 0 where
    up : p.root u ≡ false → s ≡ step_from es (p.edge u) u → v ≡ parent es p u → Tread u s v
    down : p.root v ≡ false → s ≡ step_from es (p.edge v) (parent es p v) → u ≡ parent es p v → Tread u s v

  -- a parent was found earlier
  pub parent_earlier : {u v : ℕ} → Seen v → p.root v ≡ false → u ≡ parent es p v → p.place u < p.place v
  parent_earlier {v = v} s n is = rw is (good.earlier v s n)

  pub parent_other : {v : ℕ} → Seen v → p.root v ≡ false → parent es p v ≢ v
  parent_other s n q = absurd (omega (arith, parent_earlier s n (sym q)))

  -- an edge's direction is decided by where it is left
  direction : (s : Simplex) (d : ℤ) (u v : ℕ) → u ≢ v → Goes s d u v → d ≡ leaving s u
  direction s d u v n (inl g) = rw (eq-eqb (start s) u g.1) g.0
  direction s d u v n (inr g) = rw (ne_eqb (start s) u (λ q. n (sym q ∙ g.1))) g.0

  goes_ends : (s : Simplex) (d : ℤ) (u v x y : ℕ) → Goes s d u v → Joins s y x → ((u ≡ x) × (v ≡ y)) ⊎ ((u ≡ y) × (v ≡ x))
  goes_ends s d u v x y (inl g) (inl j) = inr (sym g.1 ∙ j.0, sym g.2 ∙ j.1)
  goes_ends s d u v x y (inl g) (inr j) = inl (sym g.1 ∙ j.0, sym g.2 ∙ j.1)
  goes_ends s d u v x y (inr g) (inl j) = inl (sym g.2 ∙ j.1, sym g.1 ∙ j.0)
  goes_ends s d u v x y (inr g) (inr j) = inr (sym g.2 ∙ j.1, sym g.1 ∙ j.0)

  pub record Trodden (u : ℕ) (s : Step) (v : ℕ) : Type 0 where
    pub from_seen : Seen u
    pub to_seen : Seen v
    pub tread : Tread u s v

  pub trodden : (u v e : ℕ) (d : ℤ) → In 0 e tree → Goes (get_or es e []) d u v → Trodden u (e, d) v
  trodden u v e d i g = go (good.led e i)
    where
      go : (x : ℕ) × Seen x × (p.root x ≡ false) × (p.edge x ≡ e) → Trodden u (e, d) v
      go (x, sx, nx, ex) = cases (goes_ends (get_or es e []) d u v x (parent es p x) g (subst (λ k. Joins (get_or es k []) (parent es p x) x) ex (good.joins x sx nx)))
        where
          cases : ((u ≡ x) × (v ≡ parent es p x)) ⊎ ((u ≡ parent es p x) × (v ≡ x)) → Trodden u (e, d) v
          cases (inl (a, b)) =
              let way = direction (get_or es e []) d u v (λ q. parent_other sx nx (sym b ∙ sym q ∙ a)) g in
              let own : e ≡ p.edge u = sym (ap p.edge a ∙ ex) in
              record {
                from_seen = rw a sx;
                to_seen = rw b (good.parent_seen x sx nx);
                tread = up (rw a nx) (λ k. (own k, (way ∙ ap (λ n. leaving (get_or es n []) u) own) k)) (b ∙ ap (parent es p) (sym a));
              }
          cases (inr (a, b)) =
              let way = direction (get_or es e []) d u v (λ q. parent_other sx nx (sym a ∙ q ∙ b)) g in
              let own : e ≡ p.edge v = sym (ap p.edge b ∙ ex) in
              let above : u ≡ parent es p v = a ∙ ap (parent es p) (sym b) in
              record {
                from_seen = rw a (good.parent_seen x sx nx);
                to_seen = rw b sx;
                tread =
                    down (rw b nx)
                    (λ k. (own k, (way ∙ ap (λ n. leaving (get_or es n []) u) own ∙ ap (leaving (get_or es (p.edge v) [])) above) k))
                    above;
              }

  -- once a walk without repeats went down to x it goes only down
  pub goes_down : {x b : ℕ} {l : List Step} → Walk es tree x l b → p.root x ≡ false → Free-of (p.edge x) l → Simple l → p.place x ≤ p.place b
  goes_down stay n f o = omega arith
  goes_down {x} {b} (onward {v = v} {e = e} {d = d} {l = l} i g r) n (also f fs) (before h o) = go (trodden x v e d i g) (goes_down r)
    where
      go : Trodden x (e, d) v → (p.root v ≡ false → Free-of (p.edge v) l → Simple l → p.place v ≤ p.place b) → p.place x ≤ p.place b
      go t ih = cases t.tread
        where
          cases : Tread x (e, d) v → p.place x ≤ p.place b
          cases (up a q b) = absurd (f (sym (ap (λ t. t.0) q)))
          cases (down a q u) =
              let low = parent_earlier t.to_seen a u in
              let far = ih a (subst (λ k. Free-of k l) (ap (λ t. t.0) q) h) o in
              omega arith

  -- a step of a walk without repeats, the rest of which ends at b
  module _ (u v b e : ℕ) (d : ℤ) (l : List Step) (i : In 0 e tree) (g : Goes (get_or es e []) d u v) (r : Walk es tree v l b) (f : Free-of e l) (o : Simple l) where
    far : Trodden u (e, d) v → p.root v ≡ false → (e, d) ≡ step_from es (p.edge v) (parent es p v) → u ≡ parent es p v
        → (p.place u < p.place v) × (p.place v ≤ p.place b)
    far t a q z = (parent_earlier t.to_seen a z, goes_down r a (subst (λ k. Free-of k l) (ap (λ t. t.0) q) f) o)

    -- toward a vertex that was not found later it goes up
    pub first_up : p.place b ≤ p.place u → (p.root u ≡ false) × ((e, d) ≡ step_from es (p.edge u) u) × (v ≡ parent es p u)
    first_up h = go (trodden u v e d i g)
      where
        go : Trodden u (e, d) v → (p.root u ≡ false) × ((e, d) ≡ step_from es (p.edge u) u) × (v ≡ parent es p u)
        go t = cases t.tread
          where
            cases : Tread u (e, d) v → (p.root u ≡ false) × ((e, d) ≡ step_from es (p.edge u) u) × (v ≡ parent es p u)
            cases (up a q z) = (a, q, z)
            cases (down a q z) = absurd (omega (arith, (far t a q z).0, (far t a q z).1))

  -- a walk that ends with the step down to b
  pub record EndsDown (a b : ℕ) (w : List Step) : Type 0 where
    pub walk : List Step
    pub under : p.root b ≡ false
    pub leads : Walk es tree a walk (parent es p b)
    pub is : w ≡ walk ++ (step_from es (p.edge b) (parent es p b) ∷ [])

  -- a walk without repeats that has a step, to a vertex that was not found earlier, ends with a step down
  pub last_down : {v b : ℕ} {l : List Step} (u e : ℕ) (d : ℤ) → In 0 e tree → Goes (get_or es e []) d u v → Walk es tree v l b → Free-of e l → Simple l
      → p.place u ≤ p.place b → EndsDown u b ((e, d) ∷ l)
  last_down {v} u e d i g stay f o h = go (trodden u v e d i g)
    where
      go : Trodden u (e, d) v → EndsDown u v ((e, d) ∷ [])
      go t = cases t.tread
        where
          cases : Tread u (e, d) v → EndsDown u v ((e, d) ∷ [])
          cases (up a q z) = absurd (omega (arith, parent_earlier t.from_seen a z))
          cases (down a q z) = record { walk = []; under = a; leads = rw z stay; is = ap (λ t. t ∷ []) q }
  last_down {v} {b} u e d i g (onward {e = e'} {d = d'} {l = m} i' g' r) f (before fs o) h = go (dec_lt (p.place b) (p.place v)) (last_down v e' d' i' g' r fs o)
    where
      go : Dec (p.place b < p.place v) → (p.place v ≤ p.place b → EndsDown v b ((e', d') ∷ m)) → EndsDown u b ((e, d) ∷ (e', d') ∷ m)
      go (no n) ih =
          let w = ih (omega arith) in
          record { walk = (e, d) ∷ w.walk; under = w.under; leads = onward i g w.leads; is = ap (λ l. (e, d) ∷ l) w.is }
      go (yes n) ih = cases (trodden u v e d i g)
        where
          cases : Trodden u (e, d) v → EndsDown u b ((e, d) ∷ (e', d') ∷ m)
          cases t = ends t.tread
            where
              ends : Tread u (e, d) v → EndsDown u b ((e, d) ∷ (e', d') ∷ m)
              ends (up a q z) = absurd (omega (arith, parent_earlier t.from_seen a z))
              ends (down a q z) = absurd (let y = far u v b e d ((e', d') ∷ m) i g (onward i' g' r) f (before fs o) t a q z in omega (arith, y.1))
