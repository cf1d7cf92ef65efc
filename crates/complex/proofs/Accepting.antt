-- What it means that a complex is not refused.
use Prim.Native.Nat.{ℕ, ◌*◌, ◌<◌, ◌≤◌}
use mathlib.Core.List.{List, [], ◌∷◌}
use mathlib.Core.Path.{◌≡◌, refl}
use mathlib.Core.Bool.{Bool, true, false, not, ◌&&◌, cond}
use mathlib.Core.Logic.{◌↔◌}
use native.Mathlib.Omega.{arith}
use borrow.Author.Tests.{eq-eqb, ltb-true, lt-ltb, leb-true, le-leb}
use lib.ListN.{get_or, length}
use lib.Dec.{ltb, leb}
use Rattle.mathematics.specs.Lists.{same, listed, distinct, choose, In}
use Rattle.mathematics.specs.Tests.{every_entry}
use Rattle.mathematics.specs.Refusals.{first}
use Rattle.mathematics.proofs.Tests.{and_parts, all_at, at_all}
use Rattle.mathematics.proofs.Lists.{lists_equal, listed_at, at_listed, distinct_at, at_distinct}
use Rattle.complex.specs.declared.SimplicialComplex.{SimplicialComplex}
use Rattle.complex.specs.Complex.{Simplex, Complex, start, end, simplices, complex_of}
use Rattle.complex.specs.Search.{connected, Ends}
use Rattle.complex.specs.Judge.{counts_right, rising, simplices_right, sides_listed, triangles_right, refusal, Accepted}
use Rattle.complex.proofs.Simplices.{entries_length, simplices_length, simplex_at}
use Rattle.complex.proofs.Indexes.{two}
use Rattle.complex.proofs.Triangles.{fitting, fits}
use Rattle.complex.proofs.Searches.{connected_reached}

-- an edge of two vertices that rise below n
rising_pair : (n : ℕ) (s : Simplex) → length s ≡ 2 → rising n s ≡ true → (s ≡ start s ∷ end s ∷ []) × (start s < end s) × (end s < n)
unfolding rising
rising_pair n s long h =
    let e = two s long in
    let p = and_parts (ltb (start s) (end s)) (ltb (end s) n) (rw e at h) in
    (e, ltb-true _ _ p.0, ltb-true _ _ p.1)

-- every entry has k vertices
abbrev pub Sized : ℕ → List Simplex → Type 0
Sized k l = (i : ℕ) → i < length l → length (get_or l i []) ≡ k

pub simplices_sized : (k : ℕ) (l : List ℕ) (n : ℕ) → Sized k (simplices k l n)
simplices_sized k l n i h =
    let il : i < n = omega (arith, simplices_length k l n) in
    rw (simplex_at k l n i il) (entries_length l (k * i) k)

-- rising edges have their ends in order
pub rising_ends : (n : ℕ) (es : List Simplex) → Sized 2 es → every_entry (rising n) es ≡ true → Ends n es
rising_ends n es two_long h e el =
    let p = rising_pair n (get_or es e []) (two_long e el) (all_at (rising n) [] es h e el) in
    (p.1, p.2)

four_pass : (a b c d : Bool) → ◌≡◌ {A = ℕ} (cond (not a) 4 (cond (not b) 7 (cond (not c) 8 (cond (not d) 9 0)))) 0 → (a ≡ true) × (b ≡ true) × (c ≡ true) × (d ≡ true)
four_pass true true true true h = (refl, refl, refl, refl)
four_pass true true true false h = absurd (omega arith)
four_pass true true false d h = absurd (omega arith)
four_pass true false c d h = absurd (omega arith)
four_pass false b c d h = absurd (omega arith)

-- the four tests of a complex that is not refused
pub record Passed (c : Complex) : Type 0 where
  pub counts : counts_right c.vertices (length c.edges) (length c.triangles) ≡ true
  pub edges : simplices_right c.vertices c.edges ≡ true
  pub triangles : triangles_right c ≡ true
  pub joined : connected c.edges c.vertices ≡ true

pub passed : (c : Complex) → refusal c ≡ 0 → Passed c
unfolding refusal first
passed c h =
    let p = four_pass (counts_right c.vertices (length c.edges) (length c.triangles)) (simplices_right c.vertices c.edges) (triangles_right c) (connected c.edges c.vertices) h in
    record { counts = p.0; edges = p.1; triangles = p.2; joined = p.3 }

pub pass : (c : Complex) → Passed c → refusal c ≡ 0
unfolding refusal first
pass c p = rw (p.counts, p.edges, p.triangles, p.joined)

-- the counts in plain words
pub record Counts (v e t : ℕ) : Type 0 where
  pub some_vertex : 1 ≤ v
  pub vertices : v ≤ 64
  pub edges : e ≤ 63
  pub triangles : t ≤ 256

pub counts : (v e t : ℕ) → counts_right v e t ≡ true → Counts v e t
unfolding counts_right
counts v e t h =
    let p = and_parts ((leb 1 v && leb v 64) && leb e 63) (leb t 256) h in
    let q = and_parts (leb 1 v && leb v 64) (leb e 63) p.0 in
    let r = and_parts (leb 1 v) (leb v 64) q.0 in
    record { some_vertex = leb-true 1 v r.0; vertices = leb-true v 64 r.1; edges = leb-true e 63 q.1; triangles = leb-true t 256 p.1 }

-- the record's own counts, where it is accepted
pub counts_own : (c : SimplicialComplex) → refusal (complex_of c) ≡ 0 → Counts c.n_vertices c.n_edges c.n_triangles
unfolding complex_of
counts_own c h =
    rw (simplices_length 2 c.edges c.n_edges, simplices_length 3 c.triangles c.n_triangles) at
    (counts c.n_vertices (length (simplices 2 c.edges c.n_edges)) (length (simplices 3 c.triangles c.n_triangles)) (passed (complex_of c) h).counts)

in_at : (s : Simplex) (l : List Simplex) → listed same s l ≡ true → In [] s l
in_at s l h = listed_at same lists_equal [] s l h

pub at_in : (s : Simplex) (l : List Simplex) → In [] s l → listed same s l ≡ true
at_in s l p = at_listed same lists_equal [] s l p.0 p.1 p.2

module _ (c : Complex) (two_long : Sized 2 c.edges) (three_long : Sized 3 c.triangles) where
  -- a triangle that passes its tests
  pub triangle_fits : triangles_right c ≡ true → (t : ℕ) → t < length c.triangles → fitting c.vertices c.edges (get_or c.triangles t []) ≡ true
  unfolding triangles_right simplices_right fitting
  triangle_fits h t tl =
      let p = and_parts (every_entry (rising c.vertices) c.triangles && distinct same c.triangles) (every_entry (sides_listed c.edges) c.triangles) h in
      let q = and_parts (every_entry (rising c.vertices) c.triangles) (distinct same c.triangles) p.0 in
      rw (eq-eqb (length (get_or c.triangles t [])) 3 (three_long t tl), all_at (rising c.vertices) [] c.triangles q.0 t tl, all_at (sides_listed c.edges) [] c.triangles p.1 t tl)

  to_accepted : refusal c ≡ 0 → Accepted c
  unfolding simplices_right triangles_right
  to_accepted h =
      let es = c.edges in
      let ts = c.triangles in
      let n = c.vertices in
      let p = passed c h in
      let k = counts n (length es) (length ts) p.counts in
      let e = and_parts (every_entry (rising n) es) (distinct same es) p.edges in
      let t = and_parts (every_entry (rising n) ts && distinct same ts) (every_entry (sides_listed es) ts) p.triangles in
      record {
        some_vertex = k.some_vertex;
        few_vertices = k.vertices;
        few_edges = k.edges;
        few_triangles = k.triangles;
        edge_is = λ s at. edge_plain s at e.0;
        edge_once = distinct_at same lists_equal [] es e.1;
        triangle_is = λ s at. triangle_plain s at p.triangles;
        triangle_once = distinct_at same lists_equal [] ts (and_parts (every_entry (rising n) ts) (distinct same ts) t.0).1;
        reached = (connected_reached es n k.some_vertex (rising_ends n es two_long e.0)).0 p.joined;
      }
    where
      edge_plain : (s : Simplex) → In [] s c.edges → every_entry (rising c.vertices) c.edges ≡ true → (a b : ℕ) × (s ≡ a ∷ b ∷ []) × (a < b) × (b < c.vertices)
      edge_plain s at h =
          let long : length s ≡ 2 = rw at.2 at (two_long at.0 at.1) in
          let rise : rising c.vertices s ≡ true = rw at.2 at (all_at (rising c.vertices) [] c.edges h at.0 at.1) in
          let p = rising_pair c.vertices s long rise in
          (start s, end s, p.0, p.1, p.2)

      triangle_plain : (s : Simplex) → In [] s c.triangles → triangles_right c ≡ true → (x y z : ℕ) × (s ≡ x ∷ y ∷ z ∷ []) × (x < y) × (y < z) × (z < c.vertices) × In [] (x ∷ y ∷ []) c.edges × In [] (x ∷ z ∷ []) c.edges × In [] (y ∷ z ∷ []) c.edges
      triangle_plain s at h =
          let fit : fitting c.vertices c.edges s ≡ true = rw at.2 at (triangle_fits h at.0 at.1) in
          let f = fits c.vertices c.edges s fit in
          (start s, end s, get_or s 2 0, f.is, f.first, f.second, f.third, in_at _ c.edges f.first_side, in_at _ c.edges f.second_side, in_at _ c.edges f.third_side)

  from_accepted : Accepted c → refusal c ≡ 0
  unfolding counts_right simplices_right triangles_right rising sides_listed every_entry choose
  from_accepted a =
      let es = c.edges in
      let ts = c.triangles in
      let n = c.vertices in
      let rise : every_entry (rising n) es ≡ true =
      at_all (rising n) [] es
      (λ i il.
      let p = a.edge_is (get_or es i []) (i, il, refl) in
      rw (p.2, lt-ltb p.0 p.1 p.3, lt-ltb p.1 n p.4)) in
      let triangles_rise : every_entry (rising n) ts ≡ true =
      at_all (rising n) [] ts
      (λ i il.
      let p = a.triangle_is (get_or ts i []) (i, il, refl) in
      rw (p.3, lt-ltb p.0 p.1 p.4, lt-ltb p.1 p.2 p.5, lt-ltb p.2 n p.6)) in
      let sides : every_entry (sides_listed es) ts ≡ true =
      at_all (sides_listed es) [] ts
      (λ i il.
      let p = a.triangle_is (get_or ts i []) (i, il, refl) in
      rw (p.3, at_in (p.0 ∷ p.1 ∷ []) es p.7, at_in (p.0 ∷ p.2 ∷ []) es p.8, at_in (p.1 ∷ p.2 ∷ []) es p.9)) in
      pass c
      (record {
        counts = rw (le-leb 1 n a.some_vertex, le-leb n 64 a.few_vertices, le-leb (length es) 63 a.few_edges, le-leb (length ts) 256 a.few_triangles);
        edges = rw (rise, at_distinct same lists_equal [] es a.edge_once);
        triangles = rw (triangles_rise, at_distinct same lists_equal [] ts a.triangle_once, sides);
        joined = (connected_reached es n a.some_vertex (rising_ends n es two_long rise)).1 a.reached;
      })

-- a record is accepted exactly when its complex is right in plain words
pub accepted : (r : SimplicialComplex) → (refusal (complex_of r) ≡ 0) ↔ Accepted (complex_of r)
unfolding complex_of
accepted r =
    let c = complex_of r in
    let two_long = simplices_sized 2 r.edges r.n_edges in
    let three_long = simplices_sized 3 r.triangles r.n_triangles in
    (to_accepted c two_long three_long, from_accepted c two_long three_long)
