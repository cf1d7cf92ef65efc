use Rattle.std.proofs.Common.{◌≡◌, arith, get_or, sym, ◌∙◌, ◌<◌, ◌/◌, length, length-take, get_or-take}
use Rattle.std.proofs.lemmas.List.{get_or_default}
use Rattle.recorded.proofs.Holding.{hold_not, hold_none, hold_next, hold_all}
use Rattle.recorded.proofs.list.same.Goals as goal

pub returns-then-not-is_whole : goal.returns-then-not-is_whole
returns-then-not-is_whole g c = hold_not _ _ _ _ _ (rw c.WIDTH-width.ensures at (sym c.is_whole.ensures) ∙ c.if-not-is_whole.true)

pub loop-i-init : goal.loop-i-init
loop-i-init g c = hold_none _ _ _ _ _ (rw c.WIDTH-width.ensures at (sym c.is_whole.ensures) ∙ c.if-not-is_whole.false)

pub loop-i-preserved : goal.loop-i-preserved
loop-i-preserved g c =
    let n = length c.args.bytes.now / g.T.Entry.WIDTH in
    let size = length-take n c.args.list.now in
    let t = rw c.WIDTH-width.ensures at c.loop-i-test.true in
    let at : c.loop-i.i < n = omega (arith, size, t) in
    let is = rw c.WIDTH-width.ensures at c.entry-item.is in
    let entry : c.entry-item.result ≡ get_or c.args.list.now c.loop-i.i g.T.Entry.blank = is ∙ get_or-take n _ _ _ at ∙ get_or_default c.args.list.now c.loop-i.i _ _ (omega (arith, size, t)) in
    hold_next _ _ _ _ _ c.loop-i.invariant at (rw c.WIDTH-width.ensures at c.is_at-so_far.ensures ∙ rw entry)

pub returns : goal.returns
returns g c =
    let n = length c.args.bytes.now / g.T.Entry.WIDTH in
    let size = length-take n c.args.list.now in
    let t = rw c.WIDTH-width.ensures at c.loop-i-test.false in
    hold_all _ _ _ _ _ c.loop-i.invariant (omega (arith, size, t, c.loop-i.invariant.room))

pub slice_bounds-entry-items-end : goal.slice_bounds-entry-items-end
slice_bounds-entry-items-end g c =
    let n = length c.args.bytes.now / g.T.Entry.WIDTH in
    let room =
    (hold_none g.T.Entry.WIDTH g.T.Entry.is g.T.Entry.blank c.args.list.now c.args.bytes.now (rw c.WIDTH-width.ensures at (sym c.is_whole.ensures) ∙ c.if-not-is_whole.false)).room in
    let size = length-take n c.args.list.now in
    rw c.WIDTH-width.ensures (omega (arith, size, room))
