use Rattle.std.proofs.Common.{refl, rules, w8, FitsSigned, pos, length}
use Rattle.std.proofs.lemmas.Slice.Zip.{zip_turn, zip_end}
use Rattle.mathematics.specs.Tests.{every_entry}
use Rattle.mathematics.proofs.Signed.{back8}
use Rattle.wilson.specs.Wilson.{step_right}
use Rattle.wilson.proofs.Judging.{step_more, all_steps}
use Rattle.wilson.proofs.Path.is_right.Goals as goal

pub loop-edge-init : goal.loop-edge-init
unfolding every_entry
loop-edge-init c = refl

pub loop-edge-preserved : goal.loop-edge-preserved
unfolding step_right
loop-edge-preserved c =
    let turn = zip_turn c.args.self.edges.now c.args.self.directions.now c.loop-edge.yielded c.into_iter-edge-iterator.result c.loop-edge.edge-iterator c.next.new.self c.next.result (search rules) (search rules) c.loop-edge.yielded_by (c.in-Some.edge, c.in-Some.direction) c.in-Some.is c.next.ensures.steps in
    let d : FitsSigned w8 c.in-Some.direction.now = search rules in
    step_more c.args.m c.args.self.edges.now c.args.self.directions.now c.requires c.loop-edge.yielded (c.in-Some.edge, c.in-Some.direction) c.loop-edge.so_far _ c.in-Some.edge.now c.in-Some.direction.now c.loop-edge.invariant turn.0 (turn.2 0) (turn.3 (pos 0))
    (rw (c.is_direction.ensures, back8 c.in-Some.direction.now d.sfits, c.from.ensures))

pub returns : goal.returns
returns c =
    let end = zip_end c.args.self.edges.now c.args.self.directions.now c.loop-edge.yielded c.into_iter-edge-iterator.result c.loop-edge.edge-iterator c.next.new.self c.next.result (search rules) (search rules) c.loop-edge.yielded_by c.in-None.is c.next.ensures.steps in
    all_steps c.args.m c.args.self.edges.now c.args.self.directions.now c.requires (length c.loop-edge.yielded) end c.loop-edge.so_far c.loop-edge.invariant
