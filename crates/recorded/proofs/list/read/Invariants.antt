use Rattle.std.proofs.Common.{take}
use Rattle.recorded.specs.Bytes.{numbers_in}
use Rattle.recorded.proofs.Reading.{Reading}
use Rattle.recorded.proofs.list.read.Given as goal

abbrev pub invariant-loop-i : goal.invariant-loop-i
invariant-loop-i g l = Reading (numbers_in g.T.Entry.WIDTH g.T.Entry.taken l.bytes) (take l.n l.fn.out) l.entry-items l.n l.i
