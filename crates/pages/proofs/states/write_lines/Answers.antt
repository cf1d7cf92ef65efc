use Rattle.std.proofs.Common.{◌≡◌, ◌<◌, refl, sym, arith, ◌∙◌}
use lib.Seq.{length-take-le}
use Rattle.lines.specs.Lines.{state_line}
use Rattle.lines.proofs.Puts.{ends_inside}
use Rattle.cursor.proofs.Cursors.{row_ready}
use Rattle.pages.specs.Pages.{lines_from}
use Rattle.pages.proofs.Parts.{line_some, line_more, line_room, some_written}
use Rattle.pages.proofs.states.write_lines.Goals as goal

pub loop-here-init : goal.loop-here-init
loop-here-init c = record { room = omega arith; standing = c.requires.1; joined = refl; some = λ h. refl }

pub returns-else-out-len-ge400 : goal.returns-else-out-len-ge400
unfolding lines_from
returns-else-out-len-ge400 c =
    record { part = record { joined = c.loop-here.invariant.joined; inside = c.loop-here.invariant.room; some = omega (arith, c.requires.0) }; standing = c.loop-here.invariant.standing }

pub fill_row-requires : goal.fill_row-requires
fill_row-requires c =
    let standing = c.loop-here.invariant.standing in
    let more : 0 < c.loop-here.here.left = omega arith in
    let few = standing.walkable.cycles_fit.edges_few in
    (row_ready _ _ _ _ _ _ standing.walkable more, omega (arith, standing.few, standing.some more), c.loop-here.auto.row ∙ length-take-le _ _ (omega (arith, few, c.loop-here.auto.config)) ∙ sym c.loop-here.auto.config)

pub write_state_line-len-requires : goal.write_state_line-len-requires
write_state_line-len-requires c =
    line_room _ _ _ _ _ c.loop-here.here c.loop-here.invariant.standing (omega arith) _ c.fill_row.ensures _ _ c.loop-here.invariant.room c.if-out-len-ge400.true

pub loop-here-preserved : goal.loop-here-preserved
loop-here-preserved c =
    let number = c.loop-here.here.number in
    let row = c.fill_row.new.row in
    let room = line_room _ _ _ _ _ c.loop-here.here c.loop-here.invariant.standing (omega arith) _ c.fill_row.ensures _ _ c.loop-here.invariant.room c.if-out-len-ge400.true in
    let written = c.write_state_line-len.ensures in
    let next = c.next-here.ensures in
    record {
      room = ends_inside (state_line number row) _ _ _ _ room written;
      standing = next.standing;
      joined = line_more _ _ _ _ _ number _ _ row _ _ room c.loop-here.invariant.joined next.states c.fill_row.ensures next.numbered written;
      some = λ z. absurd (omega (arith, written.place, line_some number row));
    }

pub returns-after-loop-here : goal.returns-after-loop-here
unfolding lines_from
returns-after-loop-here c =
    let none : c.loop-here.here.left ≡ 0 = omega arith in
    record {
      part = record { joined = c.loop-here.invariant.joined; inside = c.loop-here.invariant.room; some = some_written c.loop-here.len c.loop-here.here.left _ c.loop-here.invariant.some none c.requires.2 };
      standing = c.loop-here.invariant.standing;
    }
