use Rattle.std.proofs.Common.{◌≡◌, ◌<◌, length, ap, arith}
use lib.Ieee.{binary64, mul}
use lib.ListN.{length-set}
use Rattle.complex.specs.Complex.{complex_of}
use Rattle.complex.proofs.Accepting.{accepted}
use Rattle.triangles.proofs.SidesFound.{triangles_long}
use Rattle.matrices.specs.Weights.{weight, is_given, given_list}
use Rattle.matrices.proofs.Weighing.{weight_there}
use Rattle.su2_masks.proofs.Placing.{sides_told, place_asked}
use Rattle.su2_rows.proofs.TableRows.{place_few, table_more}
use Rattle.su2_rows.proofs.tables.write_tables.Goals as goal

pub all_sides-all-requires : goal.all_sides-all-requires
all_sides-all-requires c = (accepted _).1 c.requires.0.of.accepted

pub loop-t-init : goal.loop-t-init
loop-t-init c =
    let long = triangles_long c.args.c in
    record {
      few = omega (arith, long, c.requires.0.of.accepted.few_triangles);
      places_long = omega (arith, long, c.requires.2);
      terms_long = omega (arith, long, c.requires.3);
      made = record { places_are = λ k h. absurd (omega arith); terms_are = λ k h. absurd (omega arith) };
    }

pub sides_at-requires : goal.sides_at-requires
sides_at-requires c = omega (arith, triangles_long c.args.c, c.requires.0.of.accepted.few_triangles)

pub triangle_place-place-requires : goal.triangle_place-place-requires
triangle_place-place-requires c = place_asked _ c.requires.0.of c.loop-t-test.true c.all_sides-all.ensures c.sides_at.ensures c.requires.0.few

pub overflow_cast-places : goal.overflow_cast-places
overflow_cast-places c =
    let there : c.loop-t.t < length (complex_of c.args.c).triangles = rw (triangles_long c.args.c) c.loop-t-test.true in
    let place = c.triangle_place-place.ensures _ _ c.requires.0.of (sides_told _ c.requires.0.of c.loop-t-test.true c.all_sides-all.ensures c.sides_at.ensures) in
    let low = place_few _ _ c.requires.0.of c.requires.0.few _ there in
    omega arith

pub weight_at-requires : goal.weight_at-requires
weight_at-requires c = weight_there _ _ _ c.requires.1 _ (rw (triangles_long c.args.c) c.loop-t-test.true)

pub loop-t-preserved : goal.loop-t-preserved
loop-t-preserved c =
    let there : c.loop-t.t < length (complex_of c.args.c).triangles = rw (triangles_long c.args.c) c.loop-t-test.true in
    let place = c.triangle_place-place.ensures _ _ c.requires.0.of (sides_told _ c.requires.0.of c.loop-t-test.true c.all_sides-all.ensures c.sides_at.ensures) in
    record {
      few = c.loop-t.invariant.few;
      places_long = rw length-set c.loop-t.invariant.places_long;
      terms_long = rw length-set c.loop-t.invariant.terms_long;
      made = table_more _ c.args.p (weight (is_given c.args.weights) (given_list c.args.weights)) _ _ c.loop-t.t _ _ (omega arith) (omega arith) c.loop-t.invariant.made place (ap (mul binary64 c.args.p.magnetic) c.weight_at.ensures);
    }

pub returns : goal.returns
returns c =
    let past : c.loop-t.t ≡ length (complex_of c.args.c).triangles = omega (arith, triangles_long c.args.c) in
    rw past at c.loop-t.invariant.made
