use Rattle.std.proofs.Common.{◌≡◌, ◌+◌, ◌-◌, ◌≤◌, ◌^◌, refl, sym, ap, arith, ◌∙◌, get_or, pos, to_z, w32, []}
use Rattle.std.proofs.lemmas.Int.{to_z_pos}
use Rattle.walker.proofs.Adding.{may_times}
use Rattle.cursor.proofs.Cursors.{few_states, row_ready}
use Rattle.cursor.proofs.Numbers.{at_first, at_more, found, fewer}
use Rattle.cursor.proofs.states.find_state.Goals as goal

pub first-c-requires : goal.first-c-requires
first-c-requires c = (c.requires.0, few_states _ _ _ _ _ _ c.requires.0)

pub loop-c-init : goal.loop-c-init
loop-c-init c =
    let first = c.first-c.ensures in
    let before : c.first-c.result.number ≤ c.args.place = omega (arith, first.numbered) in
    let at = at_first _ _ _ _ _ c.first-c.new.config c.first-c.result refl first.numbered in
    record { standing = first.standing; at = at; more = at_more _ _ _ _ _ _ _ at c.args.place before (rw first.states c.requires.1); before = before }

pub next_block-c-requires : goal.next_block-c-requires
next_block-c-requires c = (c.loop-c.invariant.standing, c.loop-c.invariant.more)

pub loop-c-smaller : goal.loop-c-smaller
loop-c-smaller c = fewer _ _ _ _ _ _ c.loop-c.c c.next_block-c.result c.loop-c.invariant.standing c.loop-c.invariant.more c.next_block-c.ensures

pub loop-c-preserved : goal.loop-c-preserved
loop-c-preserved c =
    let next = c.next_block-c.ensures in
    let before : c.next_block-c.result.number ≤ c.args.place = omega (arith, next.numbered) in
    let at = next.at _ c.loop-c.invariant.at in
    record { standing = next.standing; at = at; more = at_more _ _ _ _ _ _ _ at c.args.place before (rw c.first-c.ensures.states c.requires.1); before = before }

pub add-requires : goal.add-requires
add-requires c =
    let standing = c.loop-c.invariant.standing in
    let low = standing.some c.loop-c.invariant.more in
    let times : c.loop-c.c.d + (c.args.place - c.loop-c.c.number) ≤ 2 ^ 20 = omega (arith, standing.few) in
    rw (to_z_pos w32 (c.loop-c.c.d + (c.args.place - c.loop-c.c.number)) (omega arith)) (may_times _ _ _ (row_ready _ _ _ _ _ _ standing.walkable c.loop-c.invariant.more) times)

pub returns : goal.returns
returns c =
    let standing = c.loop-c.invariant.standing in
    let low = standing.some c.loop-c.invariant.more in
    let times : to_z w32 (c.loop-c.c.d + (c.args.place - c.loop-c.c.number)) ≡ pos (c.loop-c.c.d + (c.args.place - c.loop-c.c.number)) = to_z_pos w32 _ (omega (arith, standing.few)) in
    (rw times at c.add.ensures)
    ∙ sym (found _ _ _ _ _ _ c.loop-c.c c.loop-c.invariant.at standing c.loop-c.invariant.more c.args.place c.loop-c.invariant.before (omega arith))
    ∙ ap (λ l. get_or l c.args.place []) c.first-c.ensures.states
