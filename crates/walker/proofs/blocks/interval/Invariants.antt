use Rattle.std.proofs.Common.{length}
use Rattle.walker.specs.Blocks.{SpanTo}
use Rattle.walker.proofs.blocks.interval.Given as goal

abbrev pub invariant-loop-x : goal.invariant-loop-x
invariant-loop-x l = SpanTo l.lambda l.width l.config l.cycle (length l.yielded) l.span
