use Rattle.std.proofs.Common.{◌≡◌, ◌+◌, ◌-◌, length, ap, arith, refl}
use Rattle.runs.proofs.OneRun.{begun, span_asks, walk_tables, all_to_come, all_counted, none_to_come, run_asks, these_few, run_counts, next_underway}
use Rattle.runs.proofs.count_states.Goals as goal

pub loop-from-init : goal.loop-from-init
loop-from-init c =
    let all : c.args.blocks - 0 ≡ c.args.blocks = omega arith in
    record {
      tables = walk_tables c.requires c.of-kinds.ensures c.width.ensures c.of-tables.ensures;
      underway = rw all (begun c.requires);
      count = rw all (omega (arith, ap length (all_to_come c.requires)));
    }

pub span-span-requires : goal.span-span-requires
span-span-requires c =
    let now = c.loop-from.invariant in
    span_asks now.tables now.underway (omega arith) c.run_width-wide.ensures c.min-run.ensures

pub count-count-requires : goal.count-count-requires
count-count-requires c =
    let now = c.loop-from.invariant in
    run_asks now.tables now.underway (omega arith) c.run_width-wide.ensures c.min-run.ensures c.span-span.ensures

pub overflow_add-count : goal.overflow_add-count
overflow_add-count c =
    let now = c.loop-from.invariant in
    omega (arith, c.count-count.ensures, these_few now.tables now.underway (omega arith) c.run_width-wide.ensures c.min-run.ensures c.span-span.ensures, all_counted c.requires)

pub loop-from-preserved : goal.loop-from-preserved
loop-from-preserved c =
    let now = c.loop-from.invariant in
    let next : c.args.blocks - (c.loop-from.from + c.run_width-wide.result) ≡ c.args.blocks - c.loop-from.from - c.min-run.result = omega (arith, c.min-run.ensures) in
    record {
      tables = now.tables;
      underway = next_underway now.tables now.underway (omega arith) c.run_width-wide.ensures c.min-run.ensures c.span-span.ensures c.step.ensures next;
      count = omega (arith, c.count-count.ensures, run_counts now.tables now.underway (omega arith) c.run_width-wide.ensures c.min-run.ensures c.span-span.ensures c.step.ensures next);
    }

pub returns : goal.returns
returns c = omega (arith, c.loop-from.invariant.count, ap length (none_to_come c.args.w.now c.args.lambda c.loop-from.config (c.args.blocks - c.loop-from.from) (omega arith)))

-- the last run
pub returns-2 : goal.returns-2
returns-2 c =
    let now = c.loop-from.invariant in
    let none : 0 ≡ c.args.blocks - c.loop-from.from - c.min-run.result = omega (arith, c.min-run.ensures) in
    omega (arith, c.count-count.ensures, run_counts now.tables now.underway (omega arith) c.run_width-wide.ensures c.min-run.ensures c.span-span.ensures c.step.ensures none, ap length (none_to_come c.args.w.now c.args.lambda c.step.new.config 0 refl))
