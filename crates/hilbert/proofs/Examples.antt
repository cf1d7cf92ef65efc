-- Why a configuration is not in the basis, computed.
use mathlib.Core.List.{[], ◌∷◌}
use mathlib.Core.Path.{◌≡◌, refl}
use lib.IntN.{pos, negsuc}
use Rattle.std.proofs.Common.{Some, None}
use Rattle.mathematics.specs.Integers.{equal}
use Rattle.mathematics.specs.Tests.{lowest_failing}
use Rattle.complex.specs.Complex.{Complex, uncharged}
use Rattle.answers.specs.declared.finding.Finding.TheVariants.{BreaksLaw, OutsideBand}
use Rattle.gauss_law.specs.Gauss.{flow, gauss, within}
use Rattle.law_check.specs.Law.{lowest_broken, unlawful}
use Rattle.hilbert.specs.Basis.{lowest_outside, why_unlisted}

triangle : Complex
triangle = record { vertices = 3; edges = (0 ∷ 1 ∷ []) ∷ (0 ∷ 2 ∷ []) ∷ (1 ∷ 2 ∷ []) ∷ []; triangles = []; charges = uncharged }

-- around the triangle twice: lawful, and with L = 1 each edge is outside the band
lawful_outside : why_unlisted triangle 1 (pos 2 ∷ negsuc 1 ∷ pos 2 ∷ []) ≡ Some (OutsideBand 0)
unfolding triangle why_unlisted unlawful lowest_broken lowest_outside lowest_failing gauss flow equal within
lawful_outside = refl

-- the first edge is outside the band, and the law is broken at vertex 1: that is told
law_first : why_unlisted triangle 1 (pos 2 ∷ negsuc 1 ∷ pos 1 ∷ []) ≡ Some (BreaksLaw (record { vertex = 1; excess = pos 1 }))
unfolding triangle why_unlisted unlawful lowest_broken lowest_outside lowest_failing gauss flow equal within
law_first = refl

listed : why_unlisted triangle 1 (pos 1 ∷ negsuc 0 ∷ pos 1 ∷ []) ≡ None
unfolding triangle why_unlisted unlawful lowest_broken lowest_outside lowest_failing gauss flow equal within
listed = refl
