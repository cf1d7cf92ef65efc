use Rattle.std.proofs.Common.{get_or, pos}
use Rattle.hilbert.specs.Search.{row}
use Rattle.electric.specs.Electric.{field_sum, Begins}
use Rattle.electric.proofs.write_sums.Given as goal

abbrev pub invariant-loop-i : goal.invariant-loop-i
invariant-loop-i l = Begins (λ e. field_sum l.amplitudes (λ k. get_or (row l.m l.list k) e (pos 0)) l.i) l.m l.fn.res l.res
