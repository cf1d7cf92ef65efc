-- The sums of a configuration on an accepted record.
use mathlib.Core.List.{List}
use mathlib.Core.Path.{◌≡◌, ◌∙◌}
use native.Mathlib.Omega.{arith}
use lib.IntN.{ℤ, pos}
use lib.ListN.{get_or, take}
use lib.Seq.{get_or-take}
use Rattle.complex.specs.declared.SimplicialComplex.{SimplicialComplex}
use Rattle.complex.specs.Complex.{simplices, complex_of, uncharged}
use Rattle.complex.specs.Search.{Ends}
use Rattle.complex.specs.Judge.{refusal}
use Rattle.gauss_law.specs.Gauss.{gauss}
use Rattle.law_check.specs.Law.{Summed, lowest_broken, unlawful}
use Rattle.gauss_law.proofs.Spanned.{accepted_searchable}
use Rattle.law_check.proofs.Findings.{lowest_agree}

module _ (c : SimplicialComplex) (accepted : refusal (complex_of c) ≡ 0) where
  pub accepted_ends : Ends 64 (simplices 2 c.edges c.n_edges)
  accepted_ends e h =
      let a = accepted_searchable c accepted in
      let few = a.vertices_fit in
      let r = a.ends e h in
      (r.0, omega (arith, r.1))

  pub summed_unlawful : (s sums : List ℤ) → Summed (simplices 2 c.edges c.n_edges) s sums
      → lowest_broken (λ v. get_or (take c.n_vertices sums) v (pos 0)) uncharged c.n_vertices ≡ unlawful (complex_of c) (complex_of c).charges s
  unfolding unlawful complex_of
  summed_unlawful s sums h =
      let few = (accepted_searchable c accepted).vertices_fit in
      lowest_agree (λ v. get_or (take c.n_vertices sums) v (pos 0)) (gauss (complex_of c).edges s) uncharged c.n_vertices (λ v k. get_or-take c.n_vertices sums v (pos 0) k ∙ h.sum v (omega arith))
