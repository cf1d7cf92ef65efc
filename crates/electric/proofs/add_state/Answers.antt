use Rattle.std.proofs.Common.{◌<◌, length, arith, rules, w32, FitsSigned, get_or, pos}
use Rattle.mathematics.proofs.Signed.{back32}
use Rattle.electric.proofs.Beginnings.{replaced_none, replaced_next, replaced_more, replaced_all}
use Rattle.electric.proofs.add_state.Goals as goal

pub loop-e-init : goal.loop-e-init
loop-e-init c f old b = replaced_none f _ _ old _ b

pub loop-e-preserved : goal.loop-e-preserved
loop-e-preserved c f old b =
    let so_far = c.loop-e.invariant f old b in
    let here : c.loop-e.e < length c.args.state.now = omega arith in
    let n : FitsSigned w32 (get_or c.args.state.now c.loop-e.e (pos 0)) = search rules in
    replaced_more f _ _ old c.loop-e.e _ so_far here (omega (arith, b.long, c.requires)) _
    (rw (replaced_next f _ _ old c.loop-e.e _ so_far here, c.field_term.ensures, back32 (get_or c.args.state.now c.loop-e.e (pos 0)) n.sfits))

pub returns : goal.returns
returns c f old b = replaced_all f _ _ old _ _ (c.loop-e.invariant f old b) (omega arith)
