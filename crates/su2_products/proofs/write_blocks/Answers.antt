use Rattle.std.proofs.Common.{◌≡◌, ◌+◌, ◌-◌, ◌≤◌, ◌∙◌, min, length, arith}
use borrow.Rule.Slice.PartMut.{mid_len}
use Rattle.su2_products.proofs.Blocks.{none_begun, next_begun, all_begun}
use Rattle.su2_products.proofs.write_blocks.Goals as goal

pub loop-from-init : goal.loop-from-init
loop-from-init c = let nothing : min 0 c.args.n ≡ 0 = omega arith in rw nothing (none_begun _ _)

pub write_block-requires : goal.write_block-requires
write_block-requires c =
    let from = c.loop-from.from in
    let to = c.min-to.result in
    let fits = c.requires.1 in
    let enough : to ≤ length c.loop-from.res = omega (arith, c.requires.2) in
    let long = mid_len from to c.loop-from.res enough in
    let whole : from + (to - from) ≤ c.args.n = omega arith in
    record {
      few_triangles = fits.few_triangles;
      states_long = rw long (omega (arith, whole, fits.states_long));
      vector_long = rw long (omega (arith, whole, fits.vector_long));
      within = λ i t h b. fits.within i t (omega (arith, whole, rw long at h)) b;
    }

pub loop-from-preserved : goal.loop-from-preserved
loop-from-preserved c =
    let from = c.loop-from.from in
    let to = c.min-to.result in
    let start : min from c.args.n ≡ from = omega arith in
    let end : min (from + 1024) c.args.n ≡ to = omega arith in
    let rises : from ≤ to = omega arith in
    let room : to ≤ length c.loop-from.res = omega (arith, c.requires.2) in
    rw end (next_begun _ _ from to c.loop-from.res _ rises room (rw start at c.loop-from.invariant) c.write_block.ensures)

pub returns : goal.returns
returns c =
    let end : min c.loop-from.from c.args.n ≡ c.args.n = omega arith in
    (rw end at c.loop-from.invariant) ∙ all_begun _ _ _

-- the last block
pub returns-2 : goal.returns-2
returns-2 c =
    let from = c.loop-from.from in
    let to = c.min-to.result in
    let start : min from c.args.n ≡ from = omega arith in
    let end : to ≡ c.args.n = omega arith in
    let rises : from ≤ to = omega arith in
    let room : to ≤ length c.loop-from.res = omega (arith, c.requires.2) in
    next_begun _ _ from to c.loop-from.res _ rises room (rw start at c.loop-from.invariant) c.write_block.ensures ∙ rw end (all_begun _ _ c.args.n)
