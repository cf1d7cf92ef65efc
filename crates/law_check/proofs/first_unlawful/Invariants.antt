use Rattle.std.proofs.Common.{◌≡◌, None, pos, get_or}
use Rattle.mathematics.specs.Integers.{equal}
use Rattle.mathematics.specs.Tests.{lowest_failing}
use Rattle.complex.specs.Complex.{uncharged}
use Rattle.law_check.proofs.first_unlawful.Given as goal

abbrev pub invariant-loop-vertex : goal.invariant-loop-vertex
invariant-loop-vertex l = lowest_failing (λ u. equal (get_or l.sums u (pos 0)) (uncharged u)) l.vertex ≡ None
