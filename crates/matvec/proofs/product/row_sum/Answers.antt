use Rattle.std.proofs.Common.{◌≡◌, ◌+◌, ◌<◌, sym, ◌∙◌, arith, rules, length, get_or}
use Rattle.std.proofs.lemmas.List.{length_push}
use Rattle.std.proofs.lemmas.Slice.Zip.{zip_turn, zip_end}
use lib.Ieee.{nan}
use Rattle.matrices.proofs.Literals.{zero}
use Rattle.rows.specs.Entries.{pairs}
use Rattle.matvec.specs.Product.{row_sum}
use Rattle.matvec.proofs.Summing.{part, part_long, part_at, sum_turn, sum_end}
use Rattle.matvec.proofs.product.row_sum.Goals as goal

pub loop-column-init : goal.loop-column-init
unfolding row_sum
loop-column-init c = let none : c.args.from + 0 ≡ c.args.from = omega arith in rw (none, zero)

pub loop-column-preserved : goal.loop-column-preserved
loop-column-preserved c =
    let a = c.args in
    let t = length c.loop-column.yielded in
    let turn =
    zip_turn (part a.columns.now a.from a.to) (part a.values.now a.from a.to) c.loop-column.yielded c.into_iter-column-iterator.result c.loop-column.column-iterator c.next.new.self c.next.result (search rules) (search rules) c.loop-column.yielded_by (c.in-Some.column, c.in-Some.value)
    c.in-Some.is c.next.ensures.steps
    in
    let below : a.from + t < a.to = omega (arith, turn.0, part_long a.columns.now a.from a.to (omega arith)) in
    let column : c.in-Some.column.now ≡ get_or a.columns.now (a.from + t) 0 = turn.2 0 ∙ part_at a.columns.now a.from a.to t 0 below in
    let value : c.in-Some.value.now ≡ get_or a.values.now (a.from + t) nan = turn.3 nan ∙ part_at a.values.now a.from a.to t nan below in
    let next : a.from + (t + 1) ≡ a.from + t + 1 = omega arith in
    rw (length_push, next, column, value) (sum_turn a.columns.now a.values.now a.vector.now c.loop-column.sum (a.from + t) a.to below (omega arith) (omega arith) ∙ c.loop-column.invariant)

pub returns : goal.returns
returns c =
    let a = c.args in
    let t = length c.loop-column.yielded in
    let end =
    zip_end (part a.columns.now a.from a.to) (part a.values.now a.from a.to) c.loop-column.yielded c.into_iter-column-iterator.result c.loop-column.column-iterator c.next.new.self c.next.result (search rules) (search rules) c.loop-column.yielded_by
    c.in-None.is c.next.ensures.steps
    in
    let past : a.from + t ≡ a.to = omega (arith, end, part_long a.columns.now a.from a.to (omega arith), part_long a.values.now a.from a.to (omega arith)) in
    sym (sum_end (pairs a.columns.now a.values.now) a.vector.now c.loop-column.sum (a.from + t) a.to past) ∙ c.loop-column.invariant
