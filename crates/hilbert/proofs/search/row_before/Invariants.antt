use Rattle.std.proofs.Common.{◌≡◌, ◌-◌, length}
use Rattle.hilbert.specs.Basis.{smaller}
use Rattle.hilbert.proofs.search.row_before.Given as goal

abbrev pub invariant-loop-edge : goal.invariant-loop-edge
invariant-loop-edge l = smaller l.free l.row l.config l.n_free ≡ smaller l.free l.row l.config (l.n_free - length l.yielded)
