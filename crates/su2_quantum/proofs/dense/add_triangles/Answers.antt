use Rattle.std.proofs.Common.{◌≡◌, ◌<◌, length, arith}
use Rattle.complex.specs.Complex.{complex_of}
use Rattle.complex.proofs.Accepting.{accepted}
use Rattle.triangles.proofs.SidesFound.{triangles_long}
use Rattle.matrices.specs.Weights.{weight, is_given, given_list}
use Rattle.matrices.proofs.Weighing.{weight_there}
use Rattle.su2_masks.proofs.Placing.{sides_told, place_asked}
use Rattle.su2_quantum.specs.Dense.{su2_entry}
use Rattle.su2_quantum.proofs.DenseEntries.{rows_number, rows_few, flips_within, triangle_matrix}
use Rattle.su2_quantum.proofs.dense.add_triangles.Goals as goal

pub all_sides-all-requires : goal.all_sides-all-requires
all_sides-all-requires c = (accepted _).1 c.requires.0.loops.accepted

pub loop-t-init : goal.loop-t-init
unfolding su2_entry
loop-t-init c = λ old m. m

pub sides_at-requires : goal.sides_at-requires
sides_at-requires c = omega (arith, triangles_long c.args.c, c.requires.0.loops.accepted.few_triangles)

pub triangle_place-place-requires : goal.triangle_place-place-requires
triangle_place-place-requires c = place_asked _ c.requires.0.loops c.loop-t-test.true c.all_sides-all.ensures c.sides_at.ensures c.requires.0.few

pub weight_at-requires : goal.weight_at-requires
weight_at-requires c = weight_there _ _ _ c.requires.1 _ (rw (triangles_long c.args.c) c.loop-t-test.true)

pub add_flips-requires : goal.add_flips-requires
add_flips-requires c =
    let there : c.loop-t.t < length (complex_of c.args.c).triangles = rw (triangles_long c.args.c) c.loop-t-test.true in
    let matrix = c.requires.0 in
    let place = c.triangle_place-place.ensures _ _ matrix.loops (sides_told _ c.requires.0.loops c.loop-t-test.true c.all_sides-all.ensures c.sides_at.ensures) in
    (rows_few _ _ _ _ matrix, rw c.loop-t.auto.h matrix.long, λ i h. rw place (flips_within _ _ _ _ matrix _ there i h))

pub loop-t-preserved : goal.loop-t-preserved
loop-t-preserved c old m =
    let there : c.loop-t.t < length (complex_of c.args.c).triangles = rw (triangles_long c.args.c) c.loop-t-test.true in
    let matrix = c.requires.0 in
    let place = c.triangle_place-place.ensures _ _ matrix.loops (sides_told _ c.requires.0.loops c.loop-t-test.true c.all_sides-all.ensures c.sides_at.ensures) in
    let w = weight (is_given c.args.weights) (given_list c.args.weights) in
    let moved = c.add_flips.ensures (su2_entry (complex_of c.args.c) c.args.p w c.loop-t.t) old (c.loop-t.invariant old m) in
    triangle_matrix _ matrix.loops.accepted c.args.p c.args.n (rows_number _ _ _ _ matrix) old _ w c.loop-t.t there (rw (c.weight_at.ensures, place) at moved)

pub returns : goal.returns
returns c old m =
    let past : c.loop-t.t ≡ length (complex_of c.args.c).triangles = omega (arith, triangles_long c.args.c) in
    rw past at (c.loop-t.invariant old m)
