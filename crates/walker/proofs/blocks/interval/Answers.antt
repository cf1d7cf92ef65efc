use Rattle.std.proofs.Common.{length, length-append, pos, arith, rules}
use Rattle.std.proofs.lemmas.Slice.Zip.{zip_turn, zip_end}
use Rattle.walker.proofs.Narrowing.{entries_back, span_none, span_more, span_bound, span_all, span_empty}
use Rattle.walker.proofs.blocks.interval.Goals as goal

pub loop-x-init : goal.loop-x-init
loop-x-init c = span_none c.args.lambda c.args.width c.args.config.now c.args.cycle.now

pub returns-then-is_empty : goal.returns-then-is_empty
returns-then-is_empty c =
    let turn = zip_turn c.args.config.now c.args.cycle.now c.loop-x.yielded c.into_iter-x-iterator.result c.loop-x.x-iterator c.next.new.self _ (search rules) (search rules) c.loop-x.yielded_by _ c.in-Some.is c.next.ensures.steps in
    span_empty _ _ _ _ _ _ c.loop-x.invariant (omega (arith, turn.0)) (search rules)

pub narrow-span-requires : goal.narrow-span-requires
narrow-span-requires c =
    let turn = zip_turn c.args.config.now c.args.cycle.now c.loop-x.yielded c.into_iter-x-iterator.result c.loop-x.x-iterator c.next.new.self _ (search rules) (search rules) c.loop-x.yielded_by _ c.in-Some.is c.next.ensures.steps in
    let k = length c.loop-x.yielded in
    let back = entries_back c.args.config.now c.args.cycle.now c.requires.1 c.requires.2 k c.in-Some.x.now c.in-Some.sign.now (turn.2 (pos 0)) (turn.3 (pos 0)) in
    rw (back.0, back.1) (span_bound _ _ _ _ _ _ c.loop-x.invariant, c.requires.1 k, c.requires.2 k, c.requires.3)

pub loop-x-preserved : goal.loop-x-preserved
loop-x-preserved c =
    let turn = zip_turn c.args.config.now c.args.cycle.now c.loop-x.yielded c.into_iter-x-iterator.result c.loop-x.x-iterator c.next.new.self _ (search rules) (search rules) c.loop-x.yielded_by _ c.in-Some.is c.next.ensures.steps in
    let k = length c.loop-x.yielded in
    let back = entries_back c.args.config.now c.args.cycle.now c.requires.1 c.requires.2 k c.in-Some.x.now c.in-Some.sign.now (turn.2 (pos 0)) (turn.3 (pos 0)) in
    rw (length-append c.loop-x.yielded) (span_more _ _ _ _ k _ _ c.loop-x.invariant (rw (back.0, back.1) at c.narrow-span.ensures))

pub returns : goal.returns
returns c =
    let end = zip_end c.args.config.now c.args.cycle.now c.loop-x.yielded c.into_iter-x-iterator.result c.loop-x.x-iterator c.next.new.self _ (search rules) (search rules) c.loop-x.yielded_by c.in-None.is c.next.ensures.steps in
    span_all _ _ _ _ _ _ c.loop-x.invariant (omega (arith, end, c.requires.0))
