use Rattle.std.proofs.Common.{arith, sym, ◌∙◌}
use Rattle.walker.proofs.Stepping.{row_part, below_top, turn_may, turn_made, step_here, step_on, step_end}
use Rattle.walker.proofs.tables.Walker.step.Goals as goal

pub returns-then-config-from : goal.returns-then-config-from
returns-then-config-from c =
    let low = below_top c.requires.0 (omega arith) c.loop-j.invariant.turned c.from.ensures c.if-config-from.true in
    (rw row_part at c.add.ensures) ∙ sym (step_here _ _ _ _ c.loop-j.j _ (omega arith) low) ∙ c.loop-j.invariant.to_come

pub add-requires-in-loop-j : goal.add-requires-in-loop-j
add-requires-in-loop-j c = turn_may c.requires.0 (omega arith) c.loop-j.invariant.turned c.negative-back.ensures (omega arith)

pub loop-j-preserved : goal.loop-j-preserved
loop-j-preserved c =
    let fit = c.requires.0 in
    let inv = c.loop-j.invariant in
    let top = below_top fit (omega arith) inv.turned c.from.ensures c.if-config-from.false in
    let made = turn_made fit (omega arith) inv.turned c.negative-back.ensures (omega arith) c.add-in-loop-j.ensures in
    record { turned = made.1; to_come = rw made.0 (sym (step_on _ _ _ _ _ _ (omega arith) top) ∙ inv.to_come) }

pub returns : goal.returns
returns c = sym (step_end _ _ _ _ c.loop-j.j _ (omega arith)) ∙ c.loop-j.invariant.to_come
