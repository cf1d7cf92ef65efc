use Rattle.std.proofs.Common.{◌≡◌, None, pos, get_or}
use Rattle.mathematics.specs.Tests.{lowest_failing}
use Rattle.gauss_law.specs.Gauss.{within}
use Rattle.hilbert.proofs.index.find_outside.Given as goal

abbrev pub invariant-loop-edge : goal.invariant-loop-edge
invariant-loop-edge l = lowest_failing (λ e. within l.lambda (get_or l.configuration e (pos 0))) l.edge ≡ None
