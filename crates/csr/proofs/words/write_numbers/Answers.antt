use Rattle.std.proofs.Common.{◌≡◌, ◌<◌, arith, rules, length-take-le}
use Rattle.plaquettes.proofs.Listed.{row_room}
use Rattle.csr.proofs.FirstWords.{none_first, first_next, first_part}
use Rattle.csr.proofs.words.write_numbers.Goals as goal

pub loop-i-init : goal.loop-i-init
loop-i-init c = none_first _ _

pub row_at-requires : goal.row_at-requires
row_at-requires c =
    let inside : c.loop-i.i < c.args.s.states = omega (arith, c.loop-i-test.true, length-take-le c.args.s.states c.args.words.now c.requires.2) in
    (row_room _ _ _ c.requires.0 c.loop-i.i inside).0

pub number-requires : goal.number-requires
number-requires c =
    let inside : c.loop-i.i < c.args.s.states = omega (arith, c.loop-i-test.true, length-take-le c.args.s.states c.args.words.now c.requires.2) in
    rw c.row_at.ensures (c.requires.1 c.loop-i.i inside)

pub overflow_cast-word : goal.overflow_cast-word
overflow_cast-word c =
    let inside : c.loop-i.i < c.args.s.states = omega (arith, c.loop-i-test.true, length-take-le c.args.s.states c.args.words.now c.requires.2) in
    let few = (c.requires.1 c.loop-i.i inside).few in
    let told = rw c.row_at.ensures at c.number.ensures in
    search rules

pub loop-i-preserved : goal.loop-i-preserved
loop-i-preserved c = first_next _ _ _ _ _ c.loop-i.invariant c.loop-i-test.true (rw c.row_at.ensures at c.number.ensures)

pub returns : goal.returns
returns c =
    let past : c.loop-i.i ≡ c.args.s.states = omega (arith, length-take-le c.args.s.states c.args.words.now c.requires.2) in
    first_part _ _ _ _ c.requires.2 (rw past at c.loop-i.invariant)
