-- What the judge of a record and a truncation tells, by the test that decides it.
use Rattle.std.proofs.Common.{◌≡◌, ℕ, ◌<◌, ◌≤◌, true, false, lt-ltb, le-ltb}
use Rattle.mathematics.specs.Refusals.{first}
use Rattle.complex.specs.declared.SimplicialComplex.{SimplicialComplex}
use Rattle.complex.specs.Complex.{complex_of}
use Rattle.complex.specs.Judge.{counts_right, refusal, truncated_tests}
use Rattle.complex.proofs.Simplices.{simplices_length}

module _ (c : SimplicialComplex) (lambda : ℕ) where
  pub counts_told : counts_right c.n_vertices c.n_edges c.n_triangles ≡ false → 4 ≡ first (truncated_tests (complex_of c) lambda)
  unfolding first complex_of
  counts_told h = rw (simplices_length 2 c.edges c.n_edges, simplices_length 3 c.triangles c.n_triangles, h)

  module _ (right : counts_right c.n_vertices c.n_edges c.n_triangles ≡ true) where
    pub truncation_told : 1000 < lambda → 5 ≡ first (truncated_tests (complex_of c) lambda)
    unfolding first complex_of
    truncation_told h = rw (simplices_length 2 c.edges c.n_edges, simplices_length 3 c.triangles c.n_triangles, right, lt-ltb 1000 lambda h)

    pub shape_told : lambda ≤ 1000 → refusal (complex_of c) ≡ first (truncated_tests (complex_of c) lambda)
    unfolding first complex_of refusal
    shape_told h = rw (simplices_length 2 c.edges c.n_edges, simplices_length 3 c.triangles c.n_triangles, right, le-ltb 1000 lambda h)
