use Rattle.recorded.proofs.Holding.{Holding}
use Rattle.recorded.proofs.list.same.Given as goal

abbrev pub invariant-loop-i : goal.invariant-loop-i
invariant-loop-i g l = Holding g.T.Entry.WIDTH g.T.Entry.is g.T.Entry.blank l.fn.list l.bytes l.so_far l.i
