-- The free edges of a record and their ends as the code reads them, and how long their loops are.
use Prim.Native.Nat.{ℕ, ◌+◌, ◌*◌, ◌<◌, ◌≤◌}
use mathlib.Core.List.{List, [], ◌∷◌, ◌++◌, map}
use mathlib.Core.Path.{◌≡◌, refl, sym, ap, ◌∙◌}
use native.Mathlib.Omega.{arith}
use lib.IntN.{negsuc}
use lib.ListN.{get_or, set, length, length-append, length-map}
use Rattle.mathematics.specs.Writing.{put}
use Rattle.mathematics.proofs.Ordered.{each_at}
use Rattle.mathematics.proofs.Puts.{put_one, put_length}
use Rattle.complex.specs.declared.SimplicialComplex.{SimplicialComplex}
use Rattle.complex.specs.Complex.{Complex, complex_of}
use Rattle.complex.proofs.Simplices.{start_at, end_at}
use Rattle.gauss_law.specs.Listing.{free_edges}
use Rattle.gauss_law.proofs.Free.{free_below}
use Rattle.gauss_law.proofs.Spanned.{edges_long}
use Rattle.loops.specs.declared.climbing.TreeParents.{TreeParents}
use Rattle.loops.specs.Walks.{Step}
use Rattle.loops.specs.Loops.{path, first_end, second_end, loop_of, loop_steps, all_steps}
use Rattle.loops.specs.Climbing.{Parented}
use Rattle.loops.proofs.AcceptedLoops.{ends_below, steps_most}
use Rattle.loops.proofs.Climbs.{good}
use Rattle.loops.proofs.LoopLists.{NextFree, no_steps, steps_count, steps_long, put_behind}

-- a and b are the ends of edge f, and its loop is the path from a to b and then the edge back
pub record Ends (c : SimplicialComplex) (f a b : ℕ) : Type 0 where
  pub first : a < c.n_vertices
  pub second : b < c.n_vertices
  pub is : loop_of (complex_of c) f ≡ path (complex_of c) a b ++ ((f, negsuc 0) ∷ [])
  pub long : length (loop_of (complex_of c) f) ≡ length (path (complex_of c) a b) + 1

-- the path and then the edge back are written to a list; x is g of that step
module _ {c : SimplicialComplex} {f a b : ℕ} (e : Ends c f a b) {A : Type 0} (g : Step → A) {x : A} (own : x ≡ g (f, negsuc 0)) (at : ℕ) (out : List A) {last : ℕ} {mid : List A}
    (next : last ≡ at + length (path (complex_of c) a b)) (put_path : mid ≡ put out at (map g (path (complex_of c) a b))) (room : at + length (loop_of (complex_of c) f) ≤ length out) where
  pub last_room : last < length mid
  last_room =
      let p = path (complex_of c) a b in
      let fits : at + length (map g p) ≤ length out = rw (length-map p g) (omega (arith, e.long)) in
      let long = ap length put_path ∙ put_length out at (map g p) fits in
      omega (arith, e.long)

  pub loop_put : set mid last x ≡ put out at (map g (loop_of (complex_of c) f))
  loop_put =
      put_behind g (path (complex_of c) a b) ((f, negsuc 0) ∷ []) out at e.is (omega (arith, e.long)) put_path next (rw own (put_one mid last (g (f, negsuc 0)) last_room))

-- What a loop over a list of the free edges knows of it: its entries are edges, and the steps of their loops come one loop after the other.
pub record Listed (c : SimplicialComplex) (items : List ℕ) : Type 0 where
  pub same : items ≡ free_edges (complex_of c)
  pub inside : (j : ℕ) → j < length items → get_or items j 0 < c.n_edges
  pub none : length (loop_steps (complex_of c) 0) ≡ 0
  pub next : (j : ℕ) → j < length items → length (loop_steps (complex_of c) (j + 1)) ≡ length (loop_steps (complex_of c) j) + length (loop_of (complex_of c) (get_or items j 0))
  pub room : (j : ℕ) → j < length items → length (loop_steps (complex_of c) j) + length (loop_of (complex_of c) (get_or items j 0)) ≤ length (all_steps (complex_of c))
  pub few : (j : ℕ) → j ≤ length items → length (loop_steps (complex_of c) j) ≤ 3969

-- e is the entry j of a list of the free edges
pub next_free : {K : Complex} {items : List ℕ} {j e : ℕ} → items ≡ free_edges K → j < length items → e ≡ get_or items j 0 → NextFree K j e
next_free {j = j} same more is = record { more = rw same at more; is = is ∙ ap (λ l. get_or l j 0) same }

module _ {c : SimplicialComplex} {r : TreeParents} (h : Parented c r) where
  abbrev K : Complex
  K = complex_of c

  pub ends : {f a b : ℕ} → f < c.n_edges → a ≡ get_or c.edges (2 * f) 0 → b ≡ get_or c.edges (2 * f + 1) 0 → Ends c f a b
  unfolding complex_of loop_of
  ends {f} {a} {b} inside first second =
      let first_is : a ≡ first_end K f = first ∙ sym (start_at c.edges c.n_edges f inside) in
      let second_is : b ≡ second_end K f = second ∙ sym (end_at c.edges c.n_edges f inside) in
      let e = ends_below K (good h) f (rw (edges_long c) inside) in
      let is : loop_of K f ≡ path K a b ++ ((f, negsuc 0) ∷ []) = rw (first_is, second_is) in
      record { first = rw first_is e.0; second = rw second_is e.1; is = is; long = ap length is ∙ length-append (path K a b) ((f, negsuc 0) ∷ []) }

  -- ---- the free edges
  pub listed : {items : List ℕ} → items ≡ free_edges K → Listed c items
  listed {items} same =
      let many = ap length same in
      record {
        same = same;
        inside = λ j l. rw same (let i = each_at 0 (free_below K) j (rw same at l) in omega (arith, edges_long c));
        none = ap length (no_steps K);
        next = λ j l. steps_count (next_free same l refl);
        room = λ j l. rw (← steps_count (next_free same l refl)) (steps_long K (j + 1) (length (free_edges K)) (omega arith));
        few = λ j l. steps_most K (good h) j (omega arith);
      }
