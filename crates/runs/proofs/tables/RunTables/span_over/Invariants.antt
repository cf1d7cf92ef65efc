use Rattle.std.proofs.Common.{length}
use Rattle.cycles.specs.Cycles.{with_cycle}
use Rattle.walker.specs.Blocks.{SpanTo}
use Rattle.runs.specs.Edges.{picked}
use Rattle.runs.proofs.tables.RunTables.span_over.Given as goal

abbrev pub invariant-loop-edge : goal.invariant-loop-edge
invariant-loop-edge l = SpanTo l.self.lambda l.width (picked l.list (length l.list) (with_cycle l.config l.times l.self.second.now)) (picked l.list (length l.list) l.cycle) l.edge-index l.span
