use Rattle.std.proofs.Common.{◌≡◌, neg_ℤ, to_z, of_z, w32, arith}
use lib.IntN.{+ℤ_idl}
use Rattle.mathematics.proofs.Signed.{small_back, size_neg}
use Rattle.plaquettes.specs.Pairs.{stays}
use Rattle.plaquettes.proofs.Pairing.{value_back}
use Rattle.plaquettes.proofs.pairs.stays.Goals as goal

pub returns-then-not-value_stays : goal.returns-then-not-value_stays
unfolding stays
returns-then-not-value_stays c =
    let m = c.requires.0 in
    let unit : to_z w32 (of_z w32 c.args.by) ≡ c.args.by = small_back _ (omega (arith, c.requires.2)) in
    let first = rw (unit, value_back c.args.state.now _ m c.args.sides.first m.first_below) at c.value_stays.ensures in
    rw (← first, c.if-not-value_stays.true)

pub returns-then-not-value_stays-2 : goal.returns-then-not-value_stays-2
unfolding stays
returns-then-not-value_stays-2 c =
    let m = c.requires.0 in
    let unit : to_z w32 (of_z w32 c.args.by) ≡ c.args.by = small_back _ (omega (arith, c.requires.2)) in
    let first = rw (unit, value_back c.args.state.now _ m c.args.sides.first m.first_below) at c.value_stays.ensures in
    let second =
    rw (unit, +ℤ_idl (neg_ℤ c.args.by), small_back (neg_ℤ c.args.by) (omega (arith, size_neg c.args.by, c.requires.2)), value_back c.args.state.now _ m c.args.sides.second m.second_below) at c.value_stays-2.ensures in
    rw (← first, c.if-not-value_stays.false, ← second, c.if-not-value_stays-2.true)

pub returns : goal.returns
unfolding stays
returns c =
    let m = c.requires.0 in
    let unit : to_z w32 (of_z w32 c.args.by) ≡ c.args.by = small_back _ (omega (arith, c.requires.2)) in
    let first = rw (unit, value_back c.args.state.now _ m c.args.sides.first m.first_below) at c.value_stays.ensures in
    let second =
    rw (unit, +ℤ_idl (neg_ℤ c.args.by), small_back (neg_ℤ c.args.by) (omega (arith, size_neg c.args.by, c.requires.2)), value_back c.args.state.now _ m c.args.sides.second m.second_below) at c.value_stays-2.ensures in
    rw (← first, c.if-not-value_stays.false, ← second, c.if-not-value_stays-2.false, c.value_stays-3.ensures, unit, value_back c.args.state.now _ m c.args.sides.third m.third_below)
