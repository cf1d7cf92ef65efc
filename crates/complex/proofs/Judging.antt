-- The judge's answer at each of its tests.
use Prim.Native.Nat.{ℕ, ◌+◌, ◌*◌, ◌<◌, ◌≤◌}
use mathlib.Core.List.{List, [], map}
use mathlib.Core.Path.{◌≡◌, refl, sym, ◌∙◌}
use mathlib.Core.Bool.{Bool, true, false, not, ◌&&◌, cond}
use native.Mathlib.Omega.{arith}
use borrow.Author.Tests.{eq-eqb, ltb-false}
use lib.ListN.{get_or, length}
use lib.Dec.{eqb, ltb}
use Rattle.mathematics.specs.Lists.{same, distinct}
use Rattle.mathematics.specs.Tests.{every_entry}
use Rattle.mathematics.specs.Refusals.{first}
use Rattle.mathematics.proofs.Tests.{and_parts, all_at, at_all, all_and}
use Rattle.complex.specs.declared.SimplicialComplex.{SimplicialComplex}
use Rattle.complex.specs.Complex.{Simplex, entries, simplices, complex_of}
use Rattle.complex.specs.Search.{connected}
use Rattle.complex.specs.Tree.{Searchable}
use Rattle.complex.specs.Judge.{counts_right, rising, simplices_right, sides_listed, triangles_right, refusal, truncated_tests}
use Rattle.complex.specs.Numbering.{triangle_key, Keyed, EdgeTable, Judged}
use Rattle.complex.proofs.Simplices.{simplices_length, simplex_at, start_at, end_at}
use Rattle.complex.proofs.Triangles.{fitting, fitting_keyed, triangles_differ}
use Rattle.complex.proofs.Accepting.{counts, Passed, passed, simplices_sized, rising_ends}

abbrev pub edges_of : SimplicialComplex → List Simplex
edges_of c = simplices 2 c.edges c.n_edges

abbrev pub triangles_of : SimplicialComplex → List Simplex
triangles_of c = simplices 3 c.triangles c.n_triangles

-- whether the counts are right, said of the record's own
abbrev pub counts_of : SimplicialComplex → Bool
counts_of c = counts_right c.n_vertices c.n_edges c.n_triangles

-- a number above 0 says nothing of the table
refused_by : (c : SimplicialComplex) (table : List ℕ) (k : ℕ) → (k ≡ 0 → ⊥) → k ≡ refusal (complex_of c) → Judged c table k
refused_by c table k some h = record { number = h; index = λ z. absurd (some z) }

-- the four tests, said of the record's own lists
by_tests : (c : SimplicialComplex) → refusal (complex_of c) ≡ cond (not (counts_of c)) 4 (cond (not (simplices_right c.n_vertices (edges_of c))) 7 (cond (not (triangles_right (complex_of c))) 8 (cond (not (connected (edges_of c) c.n_vertices)) 9 0)))
unfolding refusal first complex_of
by_tests c = rw (simplices_length 2 c.edges c.n_edges, simplices_length 3 c.triangles c.n_triangles)

module _ (c : SimplicialComplex) (table : List ℕ) where
  pub wrong_counts : counts_of c ≡ false → Judged c table 4
  wrong_counts h = refused_by c table 4 (λ z. omega arith) (rw (by_tests c, h))

  module _ (right : counts_of c ≡ true) where
    pub falling_edge : every_entry (rising c.n_vertices) (edges_of c) ≡ false → Judged c table 7
    unfolding simplices_right
    falling_edge h = refused_by c table 7 (λ z. omega arith) (rw (by_tests c, right, h))

    pub repeated_edge : every_entry (rising c.n_vertices) (edges_of c) ≡ true → distinct same (edges_of c) ≡ false → Judged c table 7
    unfolding simplices_right
    repeated_edge rise h = refused_by c table 7 (λ z. omega arith) (rw (by_tests c, right, rise, h))

-- the edges passed both of their tests, and the table is their index
pub record Indexed (c : SimplicialComplex) (table : List ℕ) : Type 0 where
  pub right : counts_of c ≡ true
  pub edges : simplices_right c.n_vertices (edges_of c) ≡ true
  pub index : EdgeTable table (edges_of c)

pub edges_right : (c : SimplicialComplex) → every_entry (rising c.n_vertices) (edges_of c) ≡ true → distinct same (edges_of c) ≡ true → simplices_right c.n_vertices (edges_of c) ≡ true
unfolding simplices_right
edges_right c rise h = rw (rise, h)

module _ {c : SimplicialComplex} {table : List ℕ} (i : Indexed c table) where
  pub wrong_triangle : every_entry (λ s. rising c.n_vertices s && sides_listed (edges_of c) s) (triangles_of c) ≡ false → Judged c table 8
  unfolding triangles_right simplices_right complex_of
  wrong_triangle h =
      let e : (every_entry (rising c.n_vertices) (triangles_of c) && every_entry (sides_listed (edges_of c)) (triangles_of c)) ≡ false =
      sym (all_and (rising c.n_vertices) (sides_listed (edges_of c)) (triangles_of c)) ∙ h in
      refused_by c table 8 (λ z. omega arith) (rw (by_tests c, i.right, i.edges, falls _ (distinct same (triangles_of c)) _ e))
    where
      falls : (a d b : Bool) → (a && b) ≡ false → ((a && d) && b) ≡ false
      falls true true b h = h
      falls true false b h = refl
      falls false d b h = refl

  module _ (fit : every_entry (λ s. rising c.n_vertices s && sides_listed (edges_of c) s) (triangles_of c) ≡ true) where
    fit_parts : (every_entry (rising c.n_vertices) (triangles_of c) ≡ true) × (every_entry (sides_listed (edges_of c)) (triangles_of c) ≡ true)
    fit_parts =
        and_parts (every_entry (rising c.n_vertices) (triangles_of c)) (every_entry (sides_listed (edges_of c)) (triangles_of c))
        (sym (all_and (rising c.n_vertices) (sides_listed (edges_of c)) (triangles_of c)) ∙ fit)

    all_fitting : every_entry (fitting c.n_vertices (edges_of c)) (triangles_of c) ≡ true
    unfolding fitting
    all_fitting =
        at_all (fitting c.n_vertices (edges_of c)) [] (triangles_of c)
        (λ k kl.
        rw (eq-eqb (length (get_or (triangles_of c) k [])) 3 (simplices_sized 3 c.triangles c.n_triangles k kl))
        (all_at (λ s. rising c.n_vertices s && sides_listed (edges_of c) s) [] (triangles_of c) fit k kl))

    short : length (edges_of c) ≤ 63
    short = rw (simplices_length 2 c.edges c.n_edges) (counts _ _ _ i.right).edges

    pub all_keyed : (k : ℕ) → k < c.n_triangles → Keyed table (entries c.triangles (3 * k) 3)
    all_keyed k kl =
        rw (simplex_at 3 c.triangles c.n_triangles k kl) at
        (fitting_keyed c.n_vertices (edges_of c) (counts _ _ _ i.right).vertices short table i.index (get_or (triangles_of c) k [])
        (all_at (fitting c.n_vertices (edges_of c)) [] (triangles_of c) all_fitting k (rw (simplices_length 3 c.triangles c.n_triangles) kl)))

    -- the triangles differ where their keys do
    by_keys : (b : Bool) → b ≡ distinct eqb (map (triangle_key table) (triangles_of c)) → distinct same (triangles_of c) ≡ b
    by_keys b e =
        sym (triangles_differ c.n_vertices (edges_of c) (counts _ _ _ i.right).vertices short table i.index (triangles_of c) all_fitting) ∙ sym e

    pub repeated_triangle : false ≡ distinct eqb (map (triangle_key table) (triangles_of c)) → Judged c table 8
    unfolding triangles_right simplices_right complex_of
    repeated_triangle e =
        refused_by c table 8 (λ z. omega arith) (rw (by_tests c, i.right, i.edges, fit_parts.0, by_keys false e))

    -- the last test decides
    pub last_test : true ≡ distinct eqb (map (triangle_key table) (triangles_of c)) → (b : Bool) → b ≡ connected (edges_of c) c.n_vertices → Judged c table (cond b 0 9)
    unfolding triangles_right simplices_right complex_of
    last_test e b joined =
        record {
          number = rw (by_tests c, i.right, i.edges, fit_parts.0, by_keys true e, fit_parts.1, ← joined) (go b);
          index = λ z. i.index;
        }
      where
        go : (b : Bool) → ◌≡◌ {A = ℕ} (cond b 0 9) (cond (not b) 9 0)
        go true = refl
        go false = refl

-- what the later functions ask of a record whose counts are right and whose edges rise
module _ (c : SimplicialComplex) (right : counts_of c ≡ true) (rise : every_entry (rising c.n_vertices) (edges_of c) ≡ true) where
  pub small_ends : (e : ℕ) → e < c.n_edges → (get_or c.edges (2 * e) 0 < 64) × (get_or c.edges (2 * e + 1) 0 < 64)
  small_ends e el =
      let p = rising_ends c.n_vertices (edges_of c) (simplices_sized 2 c.edges c.n_edges) rise e (rw (simplices_length 2 c.edges c.n_edges) el) in
      let a : get_or c.edges (2 * e) 0 < get_or c.edges (2 * e + 1) 0 = rw (start_at c.edges c.n_edges e el, end_at c.edges c.n_edges e el) at p.0 in
      let b : get_or c.edges (2 * e + 1) 0 < c.n_vertices = rw (end_at c.edges c.n_edges e el) at p.1 in
      let k = (counts _ _ _ right).vertices in
      (omega arith, omega arith)

  pub searchable : Searchable c.edges c.n_vertices c.n_edges
  searchable =
      let k = counts _ _ _ right in
      record {
        some_vertex = k.some_vertex;
        vertices_fit = k.vertices;
        edges_fit = k.edges;
        ends = rising_ends c.n_vertices (edges_of c) (simplices_sized 2 c.edges c.n_edges) rise;
      }

-- the edges of an accepted record can be indexed, and none is listed twice
module _ (c : SimplicialComplex) (h : refusal (complex_of c) ≡ 0) where
  tests : Passed (complex_of c)
  tests = passed (complex_of c) h

  right_own : counts_of c ≡ true
  unfolding complex_of
  right_own = rw (simplices_length 2 c.edges c.n_edges, simplices_length 3 c.triangles c.n_triangles) at tests.counts

  edges_own : (every_entry (rising c.n_vertices) (edges_of c) ≡ true) × (distinct same (edges_of c) ≡ true)
  unfolding complex_of simplices_right
  edges_own = and_parts (every_entry (rising c.n_vertices) (edges_of c)) (distinct same (edges_of c)) tests.edges

  pub ends_own : (e : ℕ) → e < c.n_edges → (get_or c.edges (2 * e) 0 < 64) × (get_or c.edges (2 * e + 1) 0 < 64)
  ends_own = small_ends c right_own edges_own.0

  pub once_own : distinct same (edges_of c) ≡ true
  once_own = edges_own.1

-- 5 has its place after 4
pub with_truncation : (c : SimplicialComplex) (lambda : ℕ) → first (truncated_tests (complex_of c) lambda) ≡ cond (eqb (refusal (complex_of c)) 4) 4 (cond (ltb 1000 lambda) 5 (refusal (complex_of c)))
unfolding first refusal complex_of
with_truncation c lambda =
    go (counts_right c.n_vertices (length (edges_of c)) (length (triangles_of c))) (simplices_right c.n_vertices (edges_of c)) (triangles_right (complex_of c)) (connected (edges_of c) c.n_vertices) (ltb 1000 lambda)
  where
    go : (a b d e l : Bool) → ◌≡◌ {A = ℕ} (cond (not a) 4 (cond l 5 (cond (not b) 7 (cond (not d) 8 (cond (not e) 9 0))))) (cond (eqb (cond (not a) 4 (cond (not b) 7 (cond (not d) 8 (cond (not e) 9 0)))) 4) 4 (cond l 5 (cond (not a) 4 (cond (not b) 7 (cond (not d) 8 (cond (not e) 9 0))))))
    go false b d e l = refl
    go true false d e l = refl
    go true true false e l = refl
    go true true true false l = refl
    go true true true true l = refl

-- a record that is accepted with its truncation
pub truncated_passed : (c : SimplicialComplex) (lambda : ℕ) → first (truncated_tests (complex_of c) lambda) ≡ 0 → (refusal (complex_of c) ≡ 0) × (lambda ≤ 1000)
truncated_passed c lambda h = go (refusal (complex_of c)) (eqb (refusal (complex_of c)) 4) (ltb 1000 lambda) refl (sym (with_truncation c lambda) ∙ h)
  where
    go : (r : ℕ) (a b : Bool) → ltb 1000 lambda ≡ b → cond a 4 (cond b 5 r) ≡ 0 → (r ≡ 0) × (lambda ≤ 1000)
    go r true b e h = absurd (omega arith)
    go r false true e h = absurd (omega arith)
    go r false false e h = (h, ltb-false 1000 lambda e)
