use Rattle.std.proofs.Common.{arith, length-take}
use Rattle.recorded.proofs.Reading.{length_numbers, read_none, read_next, read_part}
use Rattle.recorded.proofs.list.read.Goals as goal

pub loop-i-init : goal.loop-i-init
loop-i-init g c =
    let e = rw c.WIDTH-width.ensures at c.min-n.ensures in
    let size = length-take c.min-n.result c.args.out.now in
    read_none _ _ _ _ (omega (arith, e, size))

pub loop-i-preserved : goal.loop-i-preserved
loop-i-preserved g c = read_next _ _ _ g.T.Entry.blank c.loop-i.invariant (let size = length-take c.min-n.result c.args.out.now in let t = c.loop-i-test.true in omega (arith, size, t, c.loop-i.invariant.long)) (rw c.WIDTH-width.ensures at c.at.ensures)

pub returns : goal.returns
returns g c =
    let e = rw c.WIDTH-width.ensures at c.min-n.ensures in
    let count = length_numbers g.T.Entry.WIDTH g.T.Entry.taken c.args.bytes.now in
    read_part (omega (arith, e, count)) c.loop-i.invariant (let size = length-take c.min-n.result c.args.out.now in let t = c.loop-i-test.false in omega (arith, size, t, e, c.loop-i.invariant.long))
