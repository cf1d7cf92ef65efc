use Rattle.std.proofs.Common.{◌≡◌, ◌+◌, ◌-◌, ◌<◌, length, sym, arith}
use Rattle.complex.proofs.HalfEdges.{none_linked, link_more}
use Rattle.complex.proofs.search.half_edges.Goals as goal

pub loop-d-init : goal.loop-d-init
loop-d-init c = none_linked _ _

pub loop-d-preserved : goal.loop-d-preserved
loop-d-preserved c =
    let inside : c.loop-d.d - 1 < length c.args.edges.now = omega arith in
    let down : c.loop-d.d ≡ c.loop-d.d - 1 + 1 = omega arith in
    let small : c.from-v.result < 64 = rw c.from-v.ensures (c.requires.1 _ inside) in
    link_more _ _ _ _ _ _ inside c.requires.0 small (sym c.from-v.ensures) (rw down at c.loop-d.invariant)
