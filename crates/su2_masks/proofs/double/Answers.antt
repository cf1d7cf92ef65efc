use Rattle.std.proofs.Common.{add-one, arith}
use Rattle.su2_masks.proofs.Doubling.{turned_more, turned_all}
use Rattle.su2_masks.proofs.double.Goals as goal

pub loop-i-preserved : goal.loop-i-preserved
loop-i-preserved c =
    let parts = c.split_at_mut-first.ensures in
    rw (c.loop-i.invariant, add-one c.loop-i.i) (turned_more _ c.split_at_mut-first.result.0.now c.split_at_mut-first.result.1.now c.loop-i.i (omega arith) (omega arith))

pub returns : goal.returns
returns c =
    let parts = c.split_at_mut-first.ensures in
    turned_all _ _ _ _ _ _ c.loop-i.i parts.front_len (omega arith) parts.front parts.back c.loop-i.invariant
