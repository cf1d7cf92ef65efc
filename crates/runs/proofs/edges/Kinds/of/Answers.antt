use Rattle.std.proofs.Common.{rules, FitsSigned, w8, pos, get_or}
use Rattle.runs.proofs.EdgeLists.{none_sorted, not_sorted, one_sorted, sign_zero, sign_some, only_moved, only_side, only_still}
use Rattle.runs.proofs.edges.Kinds.of.Goals as goal
use Rattle.runs.proofs.edges.Kinds.of.Goals.{then-sign-ne0, else-sign-ne0+then-second-e-ne0, else-sign-ne0+else-second-e-ne0}

pub loop-e-init : goal.loop-e-init
loop-e-init c = record { still = none_sorted c.new-still.ensures; side = none_sorted c.new-side.ensures; moved = none_sorted c.new-moved.ensures }

pub loop-e-preserved : goal.loop-e-preserved
loop-e-preserved c =
    let so_far = c.loop-e.invariant in
    let first : FitsSigned w8 (get_or c.args.first.now c.loop-e.e (pos 0)) = search rules in
    elim c.if-sign-ne0.branch [
      | then-sign-ne0 w ↦
          let kind = only_moved c.args.first.now c.args.second.now c.loop-e.e (sign_some _ first w.if-sign-ne0.true) in
          record {
            still = not_sorted so_far.still w.still-is kind.0;
            side = not_sorted so_far.side w.side-is kind.1;
            moved = one_sorted so_far.moved w.moved-is w.push.ensures.longer w.push.ensures.listed kind.2;
          }
      | else-sign-ne0+then-second-e-ne0 w ↦
          let second : FitsSigned w8 (get_or c.args.second.now c.loop-e.e (pos 0)) = search rules in
          let kind = only_side c.args.first.now c.args.second.now c.loop-e.e (sign_zero _ first w.if-sign-ne0.false) (sign_some _ second w.if-second-e-ne0.true) in
          record {
            still = not_sorted so_far.still w.still-is kind.0;
            side = one_sorted so_far.side w.side-is w.push-then-second-e-ne0.ensures.longer w.push-then-second-e-ne0.ensures.listed kind.1;
            moved = not_sorted so_far.moved w.moved-is kind.2;
          }
      | else-sign-ne0+else-second-e-ne0 w ↦
          let second : FitsSigned w8 (get_or c.args.second.now c.loop-e.e (pos 0)) = search rules in
          let kind = only_still c.args.first.now c.args.second.now c.loop-e.e (sign_zero _ first w.if-sign-ne0.false) (sign_zero _ second w.if-second-e-ne0.false) in
          record {
            still = one_sorted so_far.still w.still-is w.push-else-second-e-ne0.ensures.longer w.push-else-second-e-ne0.ensures.listed kind.0;
            side = not_sorted so_far.side w.side-is kind.1;
            moved = not_sorted so_far.moved w.moved-is kind.2;
          }
    ]
