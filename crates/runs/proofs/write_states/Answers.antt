use Rattle.std.proofs.Common.{◌≡◌, ◌+◌, ◌-◌, ◌∙◌, replicate, pos, length-take-le, sym, arith, refl}
use Rattle.runs.proofs.OneRun.{begun, cycles_here, walk_tables, all_to_come, all_counted, none_to_come, span_asks, run_asks, these_few, next_underway, run_written, first_long, second_long, second_signs}
use Rattle.runs.proofs.Raising.{beside_one}
use Rattle.runs.proofs.Written.{nothing_yet, all_written, room_for}
use Rattle.runs.proofs.write_states.Goals as goal

pub rows_beside-beside-requires : goal.rows_beside-beside-requires
rows_beside-beside-requires c =
    let fit = cycles_here c.requires.0 in
    let chosen = c.rows_at_once-rows.ensures in
    (second_signs fit, rw (second_long fit) chosen.0, rw (second_long fit) fit.edges_few, chosen.1)

pub loop-from-init : goal.loop-from-init
loop-from-init c =
    let all : c.args.blocks - 0 ≡ c.args.blocks = omega arith in
    record {
      tables = walk_tables c.requires.0 c.of-kinds.ensures c.width-width.ensures c.of.ensures;
      underway = rw all (begun c.requires.0);
      long = refl;
      space = length-take-le _ (replicate 63 (pos 0)) (omega (arith, c.requires.0.edges)) ∙ sym (begun c.requires.0).sized;
      so_far = rw all (nothing_yet (all_to_come c.requires.0));
    }

pub span-span-requires : goal.span-span-requires
span-span-requires c =
    let now = c.loop-from.invariant in
    span_asks now.tables now.underway (omega arith) c.run_width-wide.ensures c.min-run.ensures

pub write-count-requires : goal.write-count-requires
write-count-requires c =
    let now = c.loop-from.invariant in
    let asks = run_asks now.tables now.underway (omega arith) c.run_width-wide.ensures c.min-run.ensures c.span-span.ensures in
    let few = these_few now.tables now.underway (omega arith) c.run_width-wide.ensures c.min-run.ensures c.span-span.ensures in (
      now.space,
      asks.0,
      asks.1,
      asks.2,
      rw c.of.ensures.second c.rows_beside-beside.ensures,
      beside_one (first_long (cycles_here c.requires.0)) c.rows_beside-ahead.ensures ∙ sym c.of.ensures.first,
      rw now.underway.sized c.rows_at_once-rows.ensures.0,
      rw (now.underway.sized, now.long) (room_for now.so_far few c.requires.1),
    )

pub overflow_add-count : goal.overflow_add-count
overflow_add-count c =
    let now = c.loop-from.invariant in
    omega (arith, now.so_far.count, c.write-count.ensures.count, these_few now.tables now.underway (omega arith) c.run_width-wide.ensures c.min-run.ensures c.span-span.ensures, all_counted c.requires.0)

pub loop-from-preserved : goal.loop-from-preserved
loop-from-preserved c =
    let now = c.loop-from.invariant in
    let next : c.args.blocks - (c.loop-from.from + c.run_width-wide.result) ≡ c.args.blocks - c.loop-from.from - c.min-run.result = omega (arith, c.min-run.ensures) in
    record {
      tables = now.tables;
      underway = next_underway now.tables now.underway (omega arith) c.run_width-wide.ensures c.min-run.ensures c.span-span.ensures c.step.ensures next;
      long = c.write-count.auto.states ∙ now.long;
      space = c.write-count.auto.row ∙ now.space ∙ sym c.step.auto.config;
      so_far = run_written now.tables now.underway (omega arith) c.run_width-wide.ensures c.min-run.ensures c.span-span.ensures c.step.ensures next now.so_far c.requires.1 c.write-count.ensures;
    }

pub returns : goal.returns
returns c = all_written c.loop-from.invariant.so_far (none_to_come c.args.w.now _ _ _ (omega arith))

-- the last run
pub returns-2 : goal.returns-2
returns-2 c =
    let now = c.loop-from.invariant in
    let none : 0 ≡ c.args.blocks - c.loop-from.from - c.min-run.result = omega (arith, c.min-run.ensures) in
    all_written (run_written now.tables now.underway (omega arith) c.run_width-wide.ensures c.min-run.ensures c.span-span.ensures c.step.ensures none now.so_far c.requires.1 c.write-count.ensures) (none_to_come c.args.w.now _ _ _ refl)
