use Rattle.std.proofs.Common.{◌≡◌, ◌<◌, ◌≤◌, refl, ◌∙◌, rules, arith}
use Rattle.walker.proofs.Walk.{added_none}
use Rattle.runs.proofs.Between.{between_none}
use Rattle.runs.proofs.EdgeLists.{edges_listed}
use Rattle.runs.proofs.RunRows.{may_add, row_small, row_ready, turn, next_room, row_room, turn_written, row_next, rows_behind}
use Rattle.runs.proofs.Raising.{none_behind}
use Rattle.runs.proofs.Written.{none_written}
use Rattle.runs.proofs.tables.RunTables.write.Goals as goal

pub returns-then-is_empty : goal.returns-then-is_empty
returns-then-is_empty c =
    let low : c.args.span.to ≤ c.args.span.from = c.is_empty.ensures.0 (search rules) in
    none_written (between_none _ _ _ (omega arith))

pub fill_row-requires : goal.fill_row-requires
fill_row-requires c =
    let fit = c.requires.1 in
    let some : c.args.span.from < c.args.span.to = search (rules, c.is_empty.ensures.1) in
    (may_add fit.second_long fit.start (omega arith) fit.second_signs, omega (arith, fit.few), c.requires.0)

pub loop-init : goal.loop-init
loop-init c =
    record {
      sized = c.fill_row.auto.row ∙ c.requires.0;
      row = c.fill_row.ensures;
      long = refl;
      room = omega (arith, c.requires.7);
      written = none_written (between_none _ _ _ (omega arith));
      last = none_behind (omega (arith, c.requires.7));
    }

pub span_over-block-requires : goal.span_over-block-requires
span_over-block-requires c =
    let fit = c.requires.1 in
    let now = c.loop.invariant in
    let ready = row_ready fit c.loop-test.true now.row in (
      rw now.sized (edges_listed c.requires.3),
      ready.0.sized,
      ready.1,
      (λ e. rw (added_none c.loop.row c.args.self.now.second.now) (row_small fit c.loop-test.true now.row e)),
      fit.first_signs,
      fit.truncation,
    )

pub write_beside-requires : goal.write_beside-requires
write_beside-requires c =
    let fit = c.requires.1 in
    let now = c.loop.invariant in
    let ready = row_ready fit c.loop-test.true now.row in
    let more = turn fit c.requires.2 c.requires.3 c.loop.auto.counter c.loop-test.true (added_none _ _ ∙ now.row) c.span_over-block.ensures in (
      ready.0,
      ready.1,
      omega (arith, more.bound, fit.wide),
      rw (now.sized, now.long) (row_room more now.written c.requires.7),
      now.last,
      c.requires.4,
      c.requires.5,
      rw now.sized c.requires.6,
    )

pub overflow_add-count : goal.overflow_add-count
overflow_add-count c =
    let now = c.loop.invariant in
    let more = turn c.requires.1 c.requires.2 c.requires.3 c.loop.auto.counter c.loop-test.true (added_none _ _ ∙ now.row) c.span_over-block.ensures in
    omega (arith, now.written.count, c.size-count.ensures, more.counts, more.countable)

pub loop-preserved : goal.loop-preserved
loop-preserved c =
    let now = c.loop.invariant in
    let more = turn c.requires.1 c.requires.2 c.requires.3 c.loop.auto.counter c.loop-test.true (added_none _ _ ∙ now.row) c.span_over-block.ensures in
    record {
      sized = c.add.auto.config ∙ now.sized;
      row = row_next _ _ _ now.row c.add.ensures;
      long = c.write_beside.auto.states ∙ now.long;
      room = rw (c.write_beside.auto.states, now.long) (next_room more now.written c.requires.7 c.size-count.ensures);
      written = turn_written more now.written c.requires.7 now.row c.write_beside.ensures c.size-count.ensures;
      last = rows_behind _ _ _ _ _ now.room c.write_beside.ensures now.sized c.add.ensures c.size-count.ensures;
    }

pub returns : goal.returns
returns c =
    let some : c.args.span.from < c.args.span.to = search (rules, c.is_empty.ensures.1) in
    let low = c.loop.auto.counter in
    let high = c.loop.auto.counter-end in
    let all : c.loop.counter ≡ c.args.span.to = omega arith in
    rw all at c.loop.invariant.written
