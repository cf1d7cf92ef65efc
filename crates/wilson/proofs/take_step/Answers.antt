use Rattle.std.proofs.Common.{◌∙◌, arith, rules, w32, FitsSigned, pos, get_or}
use Rattle.mathematics.proofs.Signed.{back8, back32, size_fits}
use Rattle.gauss_law.specs.Gauss.{within}
use Rattle.gauss_law.specs.Shifts.{raised, shifted}
use Rattle.wilson.proofs.Walks.{sum_is}
use Rattle.wilson.proofs.take_step.Goals as goal

pub overflow_add-x : goal.overflow_add-x
overflow_add-x c =
    let x : FitsSigned w32 (get_or c.args.row.now c.from-e.result (pos 0)) = search rules in
    let is = sum_is c.args.row.now c.args.edge c.args.direction c.from-e.result c.from.result c.from-e.ensures x.sfits (c.from.ensures ∙ back8 c.args.direction c.ranges.direction.sfits) c.from.type_inv in
    rw is (size_fits w32 _ (omega (arith, c.requires.3)))

pub returns : goal.returns
unfolding within shifted
returns c =
    let x : FitsSigned w32 (get_or c.args.row.now c.from-e.result (pos 0)) = search rules in
    let is = sum_is c.args.row.now c.args.edge c.args.direction c.from-e.result c.from.result c.from-e.ensures x.sfits (c.from.ensures ∙ back8 c.args.direction c.ranges.direction.sfits) c.from.type_inv in
    let fits : FitsSigned w32 (raised c.args.row.now c.args.edge c.args.direction) = size_fits w32 _ (omega (arith, c.requires.3)) in
    rw (is, back32 (raised c.args.row.now c.args.edge c.args.direction) fits.sfits) (record { row_is = rw c.from-e.ensures; stays = c.within.ensures ∙ rw (is, back32 (raised c.args.row.now c.args.edge c.args.direction) fits.sfits) })
