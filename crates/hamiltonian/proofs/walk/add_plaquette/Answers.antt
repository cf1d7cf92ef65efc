use Rattle.std.proofs.Common.{◌≡◌, arith}
use Rattle.hamiltonian.proofs.Plaquettes.{hit_below, way_begun, way_on, way_ended}
use Rattle.hamiltonian.proofs.walk.add_plaquette.Goals as goal

pub loop-i-init : goal.loop-i-init
loop-i-init c = record { inside = omega arith; way = λ complex t free basis of. way_begun complex _ _ free basis t _ of _ _ }

pub add_hit-from-requires : goal.add_hit-from-requires
add_hit-from-requires c = (c.requires.0.rows.few, rw c.loop-i.auto.h c.requires.1, omega arith)

pub loop-i-preserved : goal.loop-i-preserved
loop-i-preserved c = record {
  inside = hit_below _ _ _ _ _ _ _ _ c.add_hit-from.ensures c.loop-i.invariant.inside;
  way = λ complex t free basis of.
      way_on complex _ _ free basis t _ of _ _ c.loop-i.i (omega arith) c.loop-i.from _ (c.loop-i.invariant.way complex t free basis of) _ c.find_pair-j.ensures c.requires.1 _ _ c.add_hit-from.ensures;
}

pub returns : goal.returns
returns c complex t free basis of =
    let past : c.loop-i.i ≡ c.args.s.states = omega arith in
    way_ended complex _ _ free basis t _ of _ _ c.loop-i.from _ (rw past at (c.loop-i.invariant.way complex t free basis of))
