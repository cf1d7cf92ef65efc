-- What is found, computed.
use mathlib.Core.List.{[], ◌∷◌}
use Rattle.std.proofs.Common.{Some, None}
use mathlib.Core.Path.{◌≡◌, refl}
use lib.IntN.{pos, negsuc}
use lib.ListN.{get_or}
use Rattle.mathematics.specs.Integers.{equal}
use Rattle.mathematics.specs.Tests.{lowest_failing}
use Rattle.complex.specs.Complex.{Complex, uncharged}
use Rattle.gauss_law.specs.Gauss.{flow, gauss}
use Rattle.law_check.specs.Law.{lowest_broken, unlawful}

triangle : Complex
triangle = record { vertices = 3; edges = (0 ∷ 1 ∷ []) ∷ (0 ∷ 2 ∷ []) ∷ (1 ∷ 2 ∷ []) ∷ []; triangles = []; charges = uncharged }

-- 3 on the edge from 0 to 1 and -2 on that from 1 to 2: the sums are -3, 5 and -2
breaks_law : unlawful triangle uncharged (pos 3 ∷ pos 0 ∷ negsuc 1 ∷ []) ≡ Some (record { vertex = 0; excess = negsuc 2 })
unfolding triangle unlawful lowest_broken lowest_failing gauss flow equal
breaks_law = refl

-- with the charges -3 and 5 at the first two vertices the last is the lowest that is wrong
breaks_charged : unlawful triangle (λ v. get_or (negsuc 2 ∷ pos 5 ∷ []) v (pos 0)) (pos 3 ∷ pos 0 ∷ negsuc 1 ∷ []) ≡ Some (record { vertex = 2; excess = negsuc 1 })
unfolding triangle unlawful lowest_broken lowest_failing gauss flow equal
breaks_charged = refl

keeps_law : unlawful triangle uncharged (pos 1 ∷ negsuc 0 ∷ pos 1 ∷ []) ≡ None
unfolding triangle unlawful lowest_broken lowest_failing gauss flow equal
keeps_law = refl
