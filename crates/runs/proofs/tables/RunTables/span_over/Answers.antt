use Rattle.std.proofs.Common.{length}
use Rattle.mathematics.proofs.Signed.{back32}
use Rattle.walker.proofs.Adding.{sign_back}
use Rattle.walker.proofs.Narrowing.{span_none, span_bound}
use Rattle.runs.specs.Edges.{picked}
use Rattle.runs.proofs.EdgeLists.{value_back, edge_narrows}
use Rattle.runs.proofs.tables.RunTables.span_over.Goals as goal

pub loop-edge-init : goal.loop-edge-init
loop-edge-init c = span_none _ _ (picked c.args.list.now (length c.args.list.now) _) (picked c.args.list.now (length c.args.list.now) c.args.cycle.now)

pub narrow-span-requires : goal.narrow-span-requires
narrow-span-requires c =
    let e = c.from-e.result in
    let value = value_back c.requires.2 (back32 c.args.times c.ranges.times.sfits) e c.plus_times-x.type_inv c.plus_times-x.ensures in
    rw (value, sign_back _ (c.requires.4 e)) (span_bound _ _ _ _ _ _ c.loop-edge.invariant, c.requires.3 e, c.requires.4 e, c.requires.5)

pub loop-edge-preserved : goal.loop-edge-preserved
loop-edge-preserved c =
    edge_narrows c.requires.2 (back32 c.args.times c.ranges.times.sfits) _ c.plus_times-x.type_inv c.plus_times-x.ensures _ c.requires.4 c.args.list.now c.loop-edge-test.true c.from-e.ensures c.narrow-span.ensures c.loop-edge.invariant
