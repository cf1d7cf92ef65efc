use Rattle.std.proofs.Common.{◌≡◌, arith, ap, ◌∙◌}
use Rattle.complex.proofs.Accepting.{accepted}
use Rattle.matrices.specs.Weights.{weight, is_given, given_list}
use Rattle.matrices.specs.Terms.{dense_plaquette_term}
use Rattle.plaquettes.proofs.Weighed.{triangles_few, triangle_weight, triangle_sides}
use Rattle.plaquettes.proofs.Pairing.{movable_rows}
use Rattle.hamiltonian.proofs.dense.add_magnetic.Goals as goal

pub all_sides-all-requires : goal.all_sides-all-requires
all_sides-all-requires c = (accepted _).1 c.requires.1.accepted

pub loop-t-init : goal.loop-t-init
loop-t-init c = λ old m. m

pub weight_at-requires : goal.weight_at-requires
weight_at-requires c = triangle_weight _ _ c.loop-t-test.true _ _ c.requires.2

pub sides_at-requires : goal.sides_at-requires
sides_at-requires c = omega (arith, triangles_few c.args.c c.requires.1.accepted)

pub add_plaquette-requires : goal.add_plaquette-requires
add_plaquette-requires c =
    let of = triangle_sides _ _ c.loop-t-test.true _ c.all_sides-all.ensures _ c.sides_at.ensures in
    (movable_rows _ _ _ _ c.requires.1 _ _ of, rw c.loop-t.auto.h c.requires.3)

pub loop-t-preserved : goal.loop-t-preserved
loop-t-preserved c =
    let of = triangle_sides _ _ c.loop-t-test.true _ c.all_sides-all.ensures _ c.sides_at.ensures in
    let w = weight (is_given c.args.weights) (given_list c.args.weights) in
    let value = c.dense_plaquette_term-x.ensures ∙ ap (dense_plaquette_term c.args.p) c.weight_at.ensures in
    λ old m. c.add_plaquette.ensures _ _ _ c.requires.1 of c.args.p w value old (c.loop-t.invariant old m)

pub returns : goal.returns
returns c old m =
    let past : c.loop-t.t ≡ c.args.c.n_triangles = omega arith in
    rw past at (c.loop-t.invariant old m)
