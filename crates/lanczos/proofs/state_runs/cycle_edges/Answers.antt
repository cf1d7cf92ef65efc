use Rattle.std.proofs.Common.{rules, arith, pos, get_or, w8}
use mir.Val.{SFits}
use Rattle.lanczos.proofs.Rooms.{covering_none, covering_passed, covering_pushed, covering_all}
use Rattle.lanczos.proofs.state_runs.cycle_edges.Goals as goal
use Rattle.lanczos.proofs.state_runs.cycle_edges.Goals.{then-sign-ne0, else-sign-ne0}

pub loop-e-init : goal.loop-e-init
loop-e-init c = rw c.new-edges.ensures (covering_none _ _)

pub loop-e-preserved : goal.loop-e-preserved
loop-e-preserved c =
    let fits : SFits w8 (get_or c.args.cycle.now c.loop-e.e (pos 0)) = search rules in
    elim c.if-sign-ne0.branch [
      | then-sign-ne0 w ↦
          covering_pushed _ c.if-sign-ne0.edges.list _ c.if-sign-ne0.edges.count _ _ c.loop-e.invariant (rw w.edges-is w.push.ensures.longer) (rw w.edges-is w.push.ensures.listed)
      | else-sign-ne0 w ↦ rw w.edges-is (covering_passed _ _ _ _ c.loop-e.invariant fits w.if-sign-ne0.false)
    ]

pub returns : goal.returns
returns c = covering_all _ _ _ _ (omega arith) c.loop-e.invariant
