use Rattle.std.proofs.Common.{◌<◌, refl, arith, ◌∙◌}
use Rattle.cursor.proofs.Cursors.{ready, step_may, walkable_next, none_here}
use Rattle.cursor.proofs.Numbers.{first_here, first_none}
use Rattle.cursor.proofs.Cursor.first.Goals as goal

pub width-n-requires : goal.width-n-requires
width-n-requires c = c.requires.0.cycles_fit.truncation

pub loop-behind-init : goal.loop-behind-init
loop-behind-init c = record { walkable = c.requires.0; states = refl }

pub interval-span-requires : goal.interval-span-requires
interval-span-requires c = ready _ _ _ _ _ _ c.loop-behind.invariant.walkable (omega arith)

pub returns-then-span : goal.returns-then-span
returns-then-span c =
    first_here _ _ _ _ _ _ _ c.requires.1 _ _ c.loop-behind.invariant.walkable c.loop-behind.invariant.states _ (omega arith) (omega arith) _ c.width-n.ensures c.interval-span.result c.interval-span.ensures c.if-span.true

pub step-requires : goal.step-requires
step-requires c = step_may _ _ _ _ _ _ c.loop-behind.invariant.walkable (omega arith)

pub loop-behind-preserved : goal.loop-behind-preserved
loop-behind-preserved c =
    let fit = c.loop-behind.invariant.walkable in
    let more : 0 < c.loop-behind.behind = omega arith in
    record {
      walkable = walkable_next _ _ _ _ _ _ fit more _ c.step.ensures;
      states =
          none_here _ _ _ _ _ _ fit more _ c.width-n.ensures c.interval-span.result c.interval-span.ensures (λ z. omega (arith, c.if-span.false)) _ c.step.ensures
          ∙ c.loop-behind.invariant.states;
    }

pub returns : goal.returns
returns c = first_none _ _ _ _ _ _ _ c.requires.1 _ _ c.loop-behind.invariant.walkable c.loop-behind.invariant.states (omega arith)
