use Rattle.std.proofs.Common.{◌≡◌, ◌-◌, arith, rules}
use Rattle.moves.specs.Numbers.{number}
use Rattle.moves.proofs.Digits.{product_fits, sum_fits, number_next, number_read}
use Rattle.moves.proofs.number.Digits.number.Goals as goal

pub loop-edge-init : goal.loop-edge-init
unfolding number
loop-edge-init c =
    let all : c.args.self.now.n - 0 ≡ c.args.self.now.n = omega arith in
    rw all

pub overflow_mul-a : goal.overflow_mul-a
overflow_mul-a c =
    product_fits c.requires c.loop-edge.yielded _ _ _ _ (search rules) c.loop-edge.yielded_by c.loop-edge.invariant c.next.ensures.steps c.in-Some.is

pub overflow_add-a : goal.overflow_add-a
overflow_add-a c =
    sum_fits c.requires c.loop-edge.yielded _ _ _ _ (search rules) c.loop-edge.yielded_by c.loop-edge.invariant c.next.ensures.steps c.in-Some.is c.from.ensures c.digit.ensures

pub loop-edge-preserved : goal.loop-edge-preserved
loop-edge-preserved c =
    number_next c.requires c.loop-edge.yielded _ _ _ _ (search rules) c.loop-edge.yielded_by c.loop-edge.invariant c.next.ensures.steps c.in-Some.is c.from.ensures c.digit.ensures

pub returns : goal.returns
returns c =
    number_read c.requires c.loop-edge.yielded _ _ _ _ (search rules) c.loop-edge.yielded_by c.loop-edge.invariant c.next.ensures.steps c.in-None.is
