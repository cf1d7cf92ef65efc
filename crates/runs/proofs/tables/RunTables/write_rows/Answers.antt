use Rattle.std.proofs.Common.{◌≡◌, ◌+◌, ◌-◌, ◌≤◌, ◌<◌, length, ap, ◌∙◌, arith, rules}
use Rattle.mathematics.specs.Writing.{put}
use Rattle.walker.proofs.BlockRows.{rows_none, row_room, row_after}
use Rattle.runs.proofs.Written.{none_written}
use Rattle.runs.proofs.Raising.{one_row, row_fits, row_may, row_written}
use Rattle.runs.proofs.tables.RunTables.write_rows.Goals as goal

pub returns-then-is_empty : goal.returns-then-is_empty
returns-then-is_empty c =
    let low : c.args.span.to ≤ c.args.span.from = c.is_empty.ensures.0 (search rules) in
    (none_written (rows_none _ _ _ _ (omega arith))).list

pub write_row-requires : goal.write_row-requires
write_row-requires c =
    let s = c.args in
    let some : s.span.from < s.span.to = search (rules, c.is_empty.ensures.1) in
    (c.requires.0, omega (arith, c.requires.1), omega (arith, c.requires.2, row_room s.span.from s.span.from s.span.to (length s.config.now) (omega arith) some))

pub loop-init : goal.loop-init
loop-init c =
    let s = c.args in
    let one : s.span.from + 1 - s.span.from ≡ 1 = omega arith in
    record {
      place = rw one (omega arith);
      long = c.write_row.auto.states;
      list = c.write_row.ensures ∙ ap (put s.states.now s.at) (one_row s.config.now s.self.now.first.now s.span.from);
    }

pub overflow_add-place : goal.overflow_add-place
overflow_add-place c =
    let low = c.loop.auto.counter in
    let fits = row_fits _ _ c.requires.0 (omega arith) c.loop-test.true c.requires.2 c.loop.invariant.place c.loop.invariant.list in
    search rules

pub raise-requires : goal.raise-requires
raise-requires c =
    let low = c.loop.auto.counter in
    rw c.requires.3 (row_may _ _ c.requires.0 (omega arith) c.loop-test.true c.requires.2 c.loop.invariant.place c.loop.invariant.list c.requires.1)

pub loop-preserved : goal.loop-preserved
loop-preserved c =
    let s = c.args in
    let low = c.loop.auto.counter in
    record {
      place = omega (arith, c.loop.invariant.place, row_after s.span.from c.loop.counter (length s.config.now) (omega arith));
      long = c.raise.auto.states ∙ c.loop.invariant.long;
      list = row_written _ _ c.requires.0 (omega arith) c.loop-test.true c.requires.2 c.loop.invariant.place c.loop.invariant.list (rw c.requires.3 at c.raise.ensures);
    }

pub returns : goal.returns
returns c =
    let s = c.args in
    let some : s.span.from < s.span.to = search (rules, c.is_empty.ensures.1) in
    let low = c.loop.auto.counter in
    let high = c.loop.auto.counter-end in
    let all : c.loop.counter ≡ s.span.to = omega arith in
    rw all at c.loop.invariant.list
