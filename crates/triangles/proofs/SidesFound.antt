-- The edges of a triangle of an accepted record, read off the index.
use Prim.Native.Nat.{ℕ, ◌+◌, ◌-◌, ◌*◌, ◌<◌, ◌≤◌}
use mathlib.Core.List.{List, [], ◌∷◌}
use mathlib.Core.Path.{◌≡◌, ap, sym, ◌∙◌}
use mathlib.Core.Bool.{true}
use native.Mathlib.Omega.{arith}
use lib.ListN.{get_or, length}
use lib.Dec.{leb}
use Rattle.mathematics.specs.Lists.{same, listed, position}
use Rattle.complex.specs.declared.SimplicialComplex.{SimplicialComplex}
use Rattle.complex.specs.Complex.{Simplex, Complex, start, end, entries, complex_of}
use Rattle.complex.specs.Judge.{refusal, Accepted}
use Rattle.complex.specs.Numbering.{number, EdgeTable}
use Rattle.complex.specs.Sides.{sides}
use Rattle.triangles.specs.declared.Sides.{Sides}
use Rattle.triangles.specs.Indices.{Sided, sides_in}
use Rattle.complex.proofs.Simplices.{simplices_length, simplex_at}
use Rattle.complex.proofs.Triangles.{three, Fitting, fits}
use Rattle.complex.proofs.Accepting.{Counts, counts_own, passed, simplices_sized, triangle_fits}
use Rattle.complex.proofs.TriangleEdges.{three_sides, triangle_sides}

-- the number of a listed edge is one more than its place
number_is : (s : Simplex) (es : List Simplex) → listed same s es ≡ true → (1 ≤ number same s es) × (number same s es - 1 ≡ position same s es)
unfolding number
number_is s es h = rw h (omega arith, omega arith)

pub triangles_long : (c : SimplicialComplex) → length (complex_of c).triangles ≡ c.n_triangles
unfolding complex_of
triangles_long c = simplices_length 3 c.triangles c.n_triangles

fitting_own : (c : SimplicialComplex) → refusal (complex_of c) ≡ 0 → (t : ℕ) → t < c.n_triangles → Fitting c.n_vertices (complex_of c).edges (entries c.triangles (3 * t) 3)
unfolding complex_of
fitting_own c h t tl =
    rw (simplex_at 3 c.triangles c.n_triangles t tl) at
    (fits c.n_vertices (complex_of c).edges (get_or (complex_of c).triangles t [])
    (triangle_fits (complex_of c) (simplices_sized 2 c.edges c.n_edges) (simplices_sized 3 c.triangles c.n_triangles) (passed (complex_of c) h).triangles t (rw (triangles_long c) tl)))

-- the three edges of triangle t, each at its place
sides_own : (c : SimplicialComplex) (t : ℕ) → t < c.n_triangles → sides (complex_of c) t ≡ position same (start (entries c.triangles (3 * t) 3) ∷ end (entries c.triangles (3 * t) 3) ∷ []) (complex_of c).edges ∷ position same (start (entries c.triangles (3 * t) 3) ∷ get_or (entries c.triangles (3 * t) 3) 2 0 ∷ []) (complex_of c).edges ∷ position same (end (entries c.triangles (3 * t) 3) ∷ get_or (entries c.triangles (3 * t) 3) 2 0 ∷ []) (complex_of c).edges ∷ []
unfolding complex_of entries
sides_own c t tl = three_sides (complex_of c) t _ _ _ (simplex_at 3 c.triangles c.n_triangles t tl)

module _ (c : SimplicialComplex) (t : ℕ) where
  -- the test of a triangle's number, by the record's count
  pub number_test : leb (length (complex_of c).triangles) t ≡ leb c.n_triangles t
  number_test = ap (λ n. leb n t) (triangles_long c)

  module _ (h : refusal (complex_of c) ≡ 0) (table : List ℕ) (index : EdgeTable table (complex_of c).edges) (tl : t < c.n_triangles) where
    few : Counts c.n_vertices c.n_edges c.n_triangles
    few = counts_own c h

    fit : Fitting c.n_vertices (complex_of c).edges (entries c.triangles (3 * t) 3)
    fit = fitting_own c h t tl

    pub small_triangle : t < 256
    small_triangle = let k = few.triangles in omega arith

    pub sided : Sided table (entries c.triangles (3 * t) 3)
    sided =
        let s = entries c.triangles (3 * t) 3 in
        let a = fit.first in
        let b = fit.second in
        let d = fit.third in
        let v = few.vertices in
        record {
          a_small = omega arith;
          b_small = omega arith;
          c_small = omega arith;
          ab = rw (index.numbers (start s) (end s) (omega arith) (omega arith)) (number_is _ _ fit.first_side).0;
          ac = rw (index.numbers (start s) (get_or s 2 0) (omega arith) (omega arith)) (number_is _ _ fit.second_side).0;
          bc = rw (index.numbers (end s) (get_or s 2 0) (omega arith) (omega arith)) (number_is _ _ fit.third_side).0;
        }

    pub sides_read : sides (complex_of c) t ≡ (sides_in table (entries c.triangles (3 * t) 3)).first ∷ (sides_in table (entries c.triangles (3 * t) 3)).second ∷ (sides_in table (entries c.triangles (3 * t) 3)).third ∷ []
    unfolding sides_in
    sides_read =
        let s = entries c.triangles (3 * t) 3 in
        let w = sided in
        let es = (complex_of c).edges in
        rw
        (sides_own c t tl, index.numbers (start s) (end s) w.a_small w.b_small, index.numbers (start s) (get_or s 2 0) w.a_small w.c_small, index.numbers (end s) (get_or s 2 0) w.b_small w.c_small, (number_is (start s ∷ end s ∷ []) es fit.first_side).1, (number_is (start s ∷ get_or s 2 0 ∷ []) es fit.second_side).1, (number_is (end s ∷ get_or s 2 0 ∷ []) es fit.third_side).1)

-- a triangle that was read off the record, and the numbers of its edges
module _ (triangles table : List ℕ) (t i j k : ℕ) (first : i ≡ get_or triangles (3 * t) 0) (second : j ≡ get_or triangles (3 * t + 1) 0) (third : k ≡ get_or triangles (3 * t + 2) 0) where
  read : entries triangles (3 * t) 3 ≡ i ∷ j ∷ k ∷ []
  read = three triangles t i j k first second third

  pub sided_read : Sided table (entries triangles (3 * t) 3) → Sided table (i ∷ j ∷ k ∷ [])
  sided_read s = rw read at s

  pub sides_are : {x y z : ℕ} → x ≡ get_or table (64 * i + j) 0 → y ≡ get_or table (64 * i + k) 0 → z ≡ get_or table (64 * j + k) 0 → record { first = x - 1; second = y - 1; third = z - 1 } ≡ sides_in table (entries triangles (3 * t) 3)
  unfolding sides_in
  sides_are a b c = rw (read, a, b, c)

-- the edges of a triangle of an accepted complex are numbers of edges
pub sides_below : (c : Complex) (t : ℕ) (s : Sides) → sides c t ≡ s.first ∷ s.second ∷ s.third ∷ [] → Accepted c → t < length c.triangles
    → (s.first < length c.edges) × (s.second < length c.edges) × (s.third < length c.edges)
sides_below c t s is accepted number =
    let three = triangle_sides c accepted t number in
    let same_three = sym three.numbers ∙ is in
    let i : three.i ≡ s.first = ap (λ l. get_or l 0 0) same_three in
    let j : three.j ≡ s.second = ap (λ l. get_or l 1 0) same_three in
    let k : three.k ≡ s.third = ap (λ l. get_or l 2 0) same_three in
    (rw (← i) three.i_below, rw (← j) three.j_below, rw (← k) three.k_below)
