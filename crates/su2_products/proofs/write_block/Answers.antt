use Rattle.std.proofs.Common.{◌≡◌, ◌<◌, ◌≤◌, ◌∙◌, length, get_or, take, arith, rules}
use Rattle.std.proofs.lemmas.List.{length_push, length-take-le, get_or-take}
use Rattle.std.proofs.lemmas.Slice.Zip.{zip_turn}
use lib.Ieee.{nan}
use Rattle.su2_products.proofs.Sums.{no_triangle, next_triangle}
use Rattle.su2_products.proofs.write_block.Goals as goal

pub loop-place-init : goal.loop-place-init
loop-place-init c = ((tt, tt), tt, no_triangle _ _ _ _ _ _ _ c.args.block.now c.write_electric.ensures c.write_electric.auto.block)

pub add_flips-requires : goal.add_flips-requires
add_flips-requires c =
    let n = c.args.flips.now.count in
    let places = c.args.flips.now.places in
    let terms = c.args.flips.now.terms in
    let t = length c.loop-place.yielded in
    let turn =
    zip_turn (take n places) (take n terms) c.loop-place.yielded c.into_iter-place-iterator.result c.loop-place.place-iterator c.next.new.self _ (search rules) (search rules) c.loop-place.yielded_by _
    c.in-Some.is c.next.ensures.steps
    in
    let room : n ≤ length places = omega (arith, c.requires.few_triangles) in
    let below : t < n = omega (arith, turn.0, length-take-le n places room) in
    let place : c.in-Some.place.now ≡ get_or places t 0 = turn.2 0 ∙ get_or-take n places t 0 below in
    let same : length c.loop-place.block ≡ length c.args.block.now = omega arith in
    (rw same c.requires.vector_long, λ i h. rw place (c.requires.within i t (rw same at h) below))

pub loop-place-preserved : goal.loop-place-preserved
loop-place-preserved c =
    let n = c.args.flips.now.count in
    let places = c.args.flips.now.places in
    let terms = c.args.flips.now.terms in
    let t = length c.loop-place.yielded in
    let turn =
    zip_turn (take n places) (take n terms) c.loop-place.yielded c.into_iter-place-iterator.result c.loop-place.place-iterator c.next.new.self _ (search rules) (search rules) c.loop-place.yielded_by _
    c.in-Some.is c.next.ensures.steps
    in
    let room : n ≤ length places = omega (arith, c.requires.few_triangles) in
    let below : t < n = omega (arith, turn.0, length-take-le n places room) in
    let place : c.in-Some.place.now ≡ get_or places t 0 = turn.2 0 ∙ get_or-take n places t 0 below in
    let term : c.in-Some.term.now ≡ get_or terms t nan = turn.3 nan ∙ get_or-take n terms t nan below in
    let added = rw (place, term) at c.add_flips.ensures in
    rw length_push ((tt, tt), tt, next_triangle _ _ _ _ _ _ t _ c.loop-place.block _ c.loop-place.invariant.2 (omega arith) added)
