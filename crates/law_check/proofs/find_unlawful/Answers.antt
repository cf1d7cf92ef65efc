use Rattle.std.proofs.Common.{◌≤◌, length, sym, ◌∙◌, arith}
use lib.Seq.{length-take-le}
use Rattle.gauss_law.proofs.Spanned.{accepted_searchable}
use Rattle.law_check.proofs.LawTold.{accepted_ends, summed_unlawful}
use Rattle.law_check.proofs.find_unlawful.Goals as goal

pub gauss_sums-sums-requires : goal.gauss_sums-sums-requires
gauss_sums-sums-requires c = ((accepted_searchable _ c.requires.0).edges_fit, accepted_ends _ c.requires.0, c.requires.1)

pub slice_bounds-sums-end : goal.slice_bounds-sums-end
slice_bounds-sums-end c = omega (arith, (accepted_searchable _ c.requires.0).vertices_fit, c.gauss_sums-sums.ensures.long)

pub slice_bounds-first_unlawful-end : goal.slice_bounds-first_unlawful-end
slice_bounds-first_unlawful-end c =
    sym (length-take-le c.args.c.n_vertices c.gauss_sums-sums.result (omega (arith, (accepted_searchable _ c.requires.0).vertices_fit, c.gauss_sums-sums.ensures.long)))

pub returns : goal.returns
returns c =
    let few : c.args.c.n_vertices ≤ length c.gauss_sums-sums.result = omega (arith, (accepted_searchable _ c.requires.0).vertices_fit, c.gauss_sums-sums.ensures.long) in
    c.first_unlawful.ensures ∙ rw (length-take-le c.args.c.n_vertices c.gauss_sums-sums.result few) (summed_unlawful _ c.requires.0 _ _ c.gauss_sums-sums.ensures)
