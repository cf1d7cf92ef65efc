use Rattle.std.proofs.Common.{◌≡◌, ◌∙◌, ap, length, arith, rules}
use Rattle.std.proofs.lemmas.List.{length_push}
use Rattle.std.proofs.lemmas.Slice.Zip.{zip_turn, zip_end}
use lib.Ieee.{nan}
use Rattle.rows.specs.Row.{diagonal_first}
use Rattle.rows.proofs.SortedRows.{pushed_few}
use Rattle.su2_rows.proofs.Flipping.{row_whole}
use Rattle.su2_rows.proofs.RowSteps.{triangle_pushed}
use Rattle.su2_rows.proofs.row.collect_row.Goals as goal

pub loop-flip-preserved : goal.loop-flip-preserved
loop-flip-preserved c =
    let flips = c.args.flips.now in
    let terms = c.args.terms.now in
    let t = length c.loop-flip.yielded in
    let turn =
    zip_turn flips terms c.loop-flip.yielded c.into_iter-flip-iterator.result c.loop-flip.flip-iterator c.next.new.self _ (search rules) (search rules) c.loop-flip.yielded_by _
    c.in-Some.is c.next.ensures.steps
    in
    let pushed = rw (turn.2 0, turn.3 nan) at c.push_entry-m-in-loop-flip.ensures in
    rw length_push
    ((tt, tt), tt, triangle_pushed flips terms _ _ _ _ _ t _ c.requires.3 turn.0 c.loop-flip.invariant.2 pushed, omega (arith, c.loop-flip.invariant.3, pushed_few pushed))

pub returns : goal.returns
returns c =
    let flips = c.args.flips.now in
    let terms = c.args.terms.now in
    let end =
    zip_end flips terms c.loop-flip.yielded c.into_iter-flip-iterator.result c.loop-flip.flip-iterator c.next.new.self _ (search rules) (search rules) c.loop-flip.yielded_by c.in-None.is
    c.next.ensures.steps
    in
    let past : length flips ≡ length c.loop-flip.yielded = omega (arith, end, c.requires.3) in
    (c.loop-flip.invariant.2 ∙ ap (diagonal_first c.args.i c.args.diagonal) (row_whole _ flips terms past c.requires.3), omega (arith, c.loop-flip.invariant.3, past))
