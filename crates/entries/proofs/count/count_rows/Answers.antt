use Rattle.std.proofs.Common.{◌<◌, refl, sym, ◌∙◌, arith}
use lib.Seq.{length-take-le}
use Rattle.walker.specs.Tables.{states_of, begin_of}
use Rattle.cursor.proofs.Cursors.{few_states, row_ready}
use Rattle.cursor.proofs.Numbers.{at_end, at_state}
use Rattle.entries.proofs.Counted.{counted_none, counted_more, counted_all}
use Rattle.entries.proofs.Counting.{same_countable}
use Rattle.entries.proofs.count.count_rows.Goals as goal

pub first-here-requires : goal.first-here-requires
unfolding begin_of
first-here-requires c = let fit = c.args.basis.now.fits.walkable in (fit, few_states _ _ _ _ _ _ fit)

pub loop-here-init : goal.loop-here-init
unfolding states_of begin_of
loop-here-init c =
    let first = c.first-here.ensures in
    record {
      standing = first.standing;
      at = rw c.args.basis.now.fits.sized at (first.at refl);
      counted = counted_none _ _ _ first.numbered;
      few = omega arith;
    }

pub fill_row-requires : goal.fill_row-requires
fill_row-requires c =
    let standing = c.loop-here.invariant.standing in
    let more : 0 < c.loop-here.here.left = omega arith in
    let few = standing.walkable.cycles_fit.edges_few in
    let same = c.loop-here.auto.config ∙ c.first-here.auto.config in
    (row_ready _ _ _ _ _ _ standing.walkable more, omega (arith, standing.few, standing.some more), c.loop-here.auto.state ∙ length-take-le _ _ (omega (arith, few, same)) ∙ sym same)

pub count_row-total-requires : goal.count_row-total-requires
count_row-total-requires c =
    let there = at_state _ _ _ _ _ c.loop-here.config c.loop-here.here c.loop-here.invariant.at c.loop-here.invariant.standing (omega arith) in
    same_countable _ _ _ _ _ (c.fill_row.ensures ∙ there.1) (c.requires.each c.loop-here.here.number there.0)

pub loop-here-preserved : goal.loop-here-preserved
loop-here-preserved c =
    let there = at_state _ _ _ _ _ c.loop-here.config c.loop-here.here c.loop-here.invariant.at c.loop-here.invariant.standing (omega arith) in
    let next = c.next-here.ensures in
    record {
      standing = next.standing;
      at = next.at _ c.loop-here.invariant.at;
      counted = counted_more _ _ _ _ _ _ _ c.loop-here.invariant.counted c.count_row-total.ensures.0 (c.fill_row.ensures ∙ there.1) there.0 next.numbered;
      few = omega (arith, c.count_row-total.ensures.1, next.numbered);
    }

pub returns : goal.returns
returns c =
    counted_all _ _ _ _ c.loop-here.invariant.counted (at_end _ _ _ _ _ c.loop-here.config c.loop-here.here c.loop-here.invariant.at (omega arith))
