use Rattle.std.proofs.Common.{◌≡◌, refl, ap, ◌∙◌, arith}
use Rattle.complex.proofs.Accepting.{accepted}
use Rattle.matrices.specs.Weights.{weight, is_given, given_list}
use Rattle.matrices.specs.Terms.{row_plaquette_term}
use Rattle.plaquettes.proofs.Weighed.{triangles_few, triangle_weight, triangle_sides}
use Rattle.lanczos.specs.Matvec.{triangles_added}
use Rattle.lanczos.proofs.Folds.{triangle_more}
use Rattle.lanczos.proofs.Running.{run_rows}
use Rattle.lanczos.proofs.matvec.add_magnetic.Goals as goal

pub all_sides-all-requires : goal.all_sides-all-requires
all_sides-all-requires c = (accepted _).1 c.requires.1.accepted

pub cycle_edges-edges-requires : goal.cycle_edges-edges-requires
cycle_edges-edges-requires c = rw c.requires.5.sized c.requires.1.accepted.few_edges

pub loop-t-init : goal.loop-t-init
unfolding triangles_added
loop-t-init c = refl

pub weight_at-requires : goal.weight_at-requires
weight_at-requires c = triangle_weight _ _ c.loop-t-test.true _ _ c.requires.2

pub sides_at-requires : goal.sides_at-requires
sides_at-requires c = omega (arith, triangles_few c.args.c c.requires.1.accepted)

pub add_plaquette-requires : goal.add_plaquette-requires
add_plaquette-requires c =
    let of = triangle_sides _ _ c.loop-t-test.true _ c.all_sides-all.ensures _ c.sides_at.ensures in
    (run_rows _ _ _ _ c.requires.1 _ _ of _ _ _ c.requires.5 c.cycle_edges-edges.ensures, c.requires.3, rw c.loop-t.auto.res c.requires.4)

pub loop-t-preserved : goal.loop-t-preserved
loop-t-preserved c =
    let of = triangle_sides _ _ c.loop-t-test.true _ c.all_sides-all.ensures _ c.sides_at.ensures in
    let w = weight (is_given c.args.weights) (given_list c.args.weights) in
    let value = c.row_plaquette_term-x.ensures ∙ ap (row_plaquette_term c.args.p) c.weight_at.ensures in
    triangle_more _ _ c.args.p w c.args.vector.now _ _ _ _ _ _ c.requires.1.count value c.loop-t.invariant (c.add_plaquette.ensures _ _ _ c.requires.1 of c.requires.5)

pub returns : goal.returns
returns c =
    let past : c.loop-t.t ≡ c.args.c.n_triangles = omega arith in
    rw past at c.loop-t.invariant
