use Rattle.std.proofs.Common.{◌≡◌, arith, refl}
use Rattle.walker.specs.Walker.{sum_of_cycles, lowest_candidate}
use Rattle.walker.proofs.Stepping.{turn_may, turn_made, combined_next}
use Rattle.walker.proofs.steps.begin.Goals as goal

pub loop-j-init : goal.loop-j-init
unfolding sum_of_cycles
loop-j-init c = record { turned = record { sized = refl; small = λ e. omega (arith, c.requires.0 e) }; summed = refl }

pub add-requires : goal.add-requires
add-requires c = turn_may c.requires.1 (omega arith) c.loop-j.invariant.turned c.negative-low.ensures (omega arith)

pub loop-j-preserved : goal.loop-j-preserved
loop-j-preserved c =
    let inv = c.loop-j.invariant in
    let made = turn_made c.requires.1 (omega arith) inv.turned c.negative-low.ensures (omega arith) c.add.ensures in
    record { turned = made.1; summed = rw (combined_next, ← inv.summed) made.0 }

pub returns : goal.returns
unfolding lowest_candidate
returns c = let past : c.loop-j.j ≡ c.args.n_free = omega arith in rw past at c.loop-j.invariant.summed
