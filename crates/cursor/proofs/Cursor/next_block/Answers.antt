use Rattle.std.proofs.Common.{◌+◌, ◌-◌, ◌++◌, length, sym, ap, ◌∙◌}
use Rattle.cycles.specs.Cycles.{row}
use Rattle.walker.specs.Walker.{block_rows}
use Rattle.walker.proofs.BlockRows.{rows_length}
use Rattle.cursor.proofs.Cursors.{step_may, walkable_next, block_passed, numbers_on}
use Rattle.cursor.proofs.Numbers.{at_passed}
use Rattle.cursor.proofs.Cursor.next_block.Goals as goal

pub step-requires : goal.step-requires
step-requires c = step_may _ _ _ _ _ _ c.requires.0.walkable c.requires.1

pub first-requires : goal.first-requires
first-requires c =
    let s = c.args.self in
    let config = c.args.config.now in
    let z = row (length config) c.args.w.now.cycles 0 in
    let fit = c.requires.0.walkable in (
      walkable_next _ _ _ _ _ _ fit c.requires.1 _ c.step.ensures,
      numbers_on s.number (s.to - s.d) _ (block_rows config z s.d s.to) _ (rows_length config z s.d s.to) (block_passed _ _ _ _ _ _ fit c.requires.1 _ c.step.ensures s.d s.to) c.requires.0.numbers,
    )

pub returns : goal.returns
returns c =
    let s = c.args.self in
    let config = c.args.config.now in
    let z = row (length config) c.args.w.now.cycles 0 in
    let rows = block_rows config z s.d s.to in
    let first = c.first.ensures in
    let states = block_passed _ _ _ _ _ _ c.requires.0.walkable c.requires.1 _ c.step.ensures s.d s.to ∙ ap (λ l. rows ++ l) (sym first.states) in
    record {
      standing = first.standing;
      states = states;
      numbered = first.numbered;
      at = λ all at. at_passed _ _ _ _ all config s at rows _ c.first.result states (first.numbered ∙ ap (λ k. s.number + k) (sym (rows_length config z s.d s.to)));
    }
