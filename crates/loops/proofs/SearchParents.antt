-- The search of a graph gives parents, and its vertices are of one part.
use Prim.Native.Nat.{ℕ, zero, suc, ◌-◌, ◌<◌, ◌≤◌}
use mathlib.Core.List.{List, []}
use mathlib.Core.Bool.{Bool, true, false}
use mathlib.Core.Path.{◌≡◌, refl, sym, ap, ◌∙◌, subst}
use mathlib.Core.Logic.{◌≢◌}
use native.Mathlib.Omega.{arith}
use borrow.Author.Tests.{ne_eqb, eqb-false, eqb-true}
use lib.Dec.{eqb}
use lib.ListN.{get_or, length}
use Rattle.cycles.proofs.PathTables.{joins_back}
use Rattle.mathematics.specs.Lists.{listed, position, In}
use Rattle.mathematics.proofs.Ordered.{Ordered, at_ordered, place_member}
use Rattle.mathematics.proofs.Below.{listed_member, member_listed, place_right, place_at}
use Rattle.complex.specs.Complex.{Simplex, Joins}
use Rattle.complex.specs.Search.{Search, SpansReached}
use Rattle.complex.proofs.Looks.{joins_across}
use Rattle.loops.specs.Parents.{ParentsOf, parent, Under, itself, above, Together, parents_of}

module _ (es : List Simplex) (n : ℕ) (s : Search) (spans : SpansReached es n s) where
  abbrev Seen : ℕ → Type 0
  Seen v = listed eqb v s.seen ≡ true

  once : Ordered (λ x y. x ≢ y) s.seen
  once = at_ordered 0 s.seen spans.apart

  placed : (v : ℕ) → Seen v → (position eqb v s.seen < length s.seen) × (get_or s.seen (position eqb v s.seen) 0 ≡ v)
  placed v h = place_right 0 (listed_member v s.seen h)

  seen_at : (i : ℕ) → i < length s.seen → Seen (get_or s.seen i 0)
  seen_at i h = member_listed (place_member 0 s.seen i h)

  less : (q i : ℕ) → q ≡ suc i → get_or s.tree (q - 1) 0 ≡ get_or s.tree i 0
  less q i e = let k : q - 1 ≡ i = omega arith in ap (λ k. get_or s.tree k 0) k

  -- v was found at place i + 1, from the vertex at place h
  record Led (v : ℕ) : Type 0 where
    i : ℕ
    h : ℕ
    at : position eqb v s.seen ≡ suc i
    inside : i < length s.tree
    older : h ≤ i
    edge : (parents_of s).edge v ≡ get_or s.tree i 0
    from : parent es (parents_of s) v ≡ get_or s.seen h 0
    joins : Joins (get_or es ((parents_of s).edge v) []) (get_or s.seen h 0) v

  led : (v : ℕ) → Seen v → (parents_of s).root v ≡ false → Led v
  unfolding parents_of
  led v sv n = go (position eqb v s.seen) refl
    where
      go : (q : ℕ) → position eqb v s.seen ≡ q → Led v
      go zero e = absurd (eqb-false (position eqb v s.seen) 0 n e)
      go (suc i) e =
          let r = placed v sv in
          let z = spans.sizes in
          let inside : i < length s.tree = omega (arith, r.0) in
          let j = spans.joined i inside in
          let E = get_or s.tree (position eqb v s.seen - 1) 0 in
          let from = get_or s.seen j.0 0 in
          let own : E ≡ get_or s.tree i 0 = less (position eqb v s.seen) i e in
          let is : get_or s.seen (suc i) 0 ≡ v = sym (ap (λ k. get_or s.seen k 0) e) ∙ r.1 in
          let joins : Joins (get_or es E []) from v = subst (λ x. Joins (get_or es E []) from x) is (subst (λ e. Joins (get_or es e []) from (get_or s.seen (suc i) 0)) (sym own) j.2) in
          record {
            i = i;
            h = j.0;
            at = e;
            inside = inside;
            older = j.1;
            edge = own;
            from = joins_across (get_or es E []) v from (joins_back (get_or es E []) from v joins);
            joins = joins;
          }

  filled : (v : ℕ) (l : Led v) → l.h < length s.seen
  filled v l = let z = spans.sizes in let a = l.inside in let b = l.older in omega arith

  place_from : (v : ℕ) (l : Led v) → (parents_of s).place (parent es (parents_of s) v) ≡ l.h
  unfolding parents_of
  place_from v l = ap (λ x. position eqb x s.seen) l.from ∙ place_at 0 once l.h (filled v l)

  pub search_parents : ParentsOf es s.seen s.tree (parents_of s)
  unfolding parents_of
  search_parents =
      record {
        apart = λ v w sv sw q. sym (placed v sv).1 ∙ ap (λ k. get_or s.seen k 0) q ∙ (placed w sw).1;
        edge = λ v sv n. let l = led v sv n in (l.i, l.inside, sym l.edge);
        parent_seen = λ v sv n. let l = led v sv n in rw l.from (seen_at l.h (filled v l));
        earlier = λ v sv n. let l = led v sv n in let a = l.at in let b = l.older in let c = place_from v l in omega arith;
        joins = λ v sv n. let l = led v sv n in rw l.from l.joins;
        led = leads;
      }
    where
      leads : (e : ℕ) → In 0 e s.tree → (v : ℕ) × Seen v × (eqb (position eqb v s.seen) 0 ≡ false) × (get_or s.tree (position eqb v s.seen - 1) 0 ≡ e)
      leads e (i, h, q) =
          let z = spans.sizes in
          let inside : suc i < length s.seen = omega arith in
          let v = get_or s.seen (suc i) 0 in
          let at : position eqb v s.seen ≡ suc i = place_at 0 once (suc i) inside in
          (v, seen_at (suc i) inside, ne_eqb (position eqb v s.seen) 0 (λ z. omega arith), less (position eqb v s.seen) i at ∙ q)

  -- all climb to the vertex found first
  first_under : (v : ℕ) → Seen v → (parents_of s).root v ≡ true → Under es (parents_of s) v (get_or s.seen 0 0)
  unfolding parents_of
  first_under v sv t =
      let is : get_or s.seen 0 0 ≡ v = ap (λ k. get_or s.seen k 0) (sym (eqb-true (position eqb v s.seen) 0 t)) ∙ (placed v sv).1 in
      subst (λ x. Under es (parents_of s) v x) (sym is) (itself t)

  search_under : (k v : ℕ) → Seen v → (parents_of s).place v < k → Under es (parents_of s) v (get_or s.seen 0 0)
  search_under zero v sv h = absurd (omega arith)
  search_under (suc k) v sv h = go ((parents_of s).root v) refl (search_under k (parent es (parents_of s) v))
    where
      go : (b : Bool) → (parents_of s).root v ≡ b
          → (Seen (parent es (parents_of s) v) → (parents_of s).place (parent es (parents_of s) v) < k → Under es (parents_of s) (parent es (parents_of s) v) (get_or s.seen 0 0))
          → Under es (parents_of s) v (get_or s.seen 0 0)
      go true t ih = first_under v sv t
      go false t ih = let low = search_parents.earlier v sv t in above t (ih (search_parents.parent_seen v sv t) (omega arith))

  pub search_together : (a b : ℕ) → Seen a → Seen b → Together es (parents_of s) a b
  search_together a b sa sb = (get_or s.seen 0 0, search_under (suc ((parents_of s).place a)) a sa (omega arith), search_under (suc ((parents_of s).place b)) b sb (omega arith))
