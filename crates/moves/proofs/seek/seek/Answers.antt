use Rattle.std.proofs.Common.{◌≡◌, ◌≤◌, ◌<◌, ◌+◌, length, sym, ◌∙◌, arith}
use Rattle.moves.specs.Numbers.{number_in}
use Rattle.moves.proofs.Seeking.{sought_next, sought_here, sought_end}
use Rattle.moves.proofs.seek.seek.Goals as goal

pub loop-place-preserved : goal.loop-place-preserved
loop-place-preserved c =
    let less : number_in c.args.words.now c.loop-place.place + 1048576 < c.args.wanted = omega (arith, c.lower.ensures.0, c.if-wanted-lower.false) in
    sym (sought_next (number_in c.args.words.now) c.args.wanted c.loop-place.place (length c.args.words.now) c.loop-place-test.true less) ∙ c.loop-place.invariant

pub returns-then-wanted-lower : goal.returns-then-wanted-lower
returns-then-wanted-lower c =
    let not_less : c.args.wanted ≤ number_in c.args.words.now c.loop-place.place + 1048576 = omega (arith, c.lower.ensures.0, c.if-wanted-lower.true) in
    (sym (sought_here (number_in c.args.words.now) c.args.wanted c.loop-place.place (length c.args.words.now) c.loop-place-test.true not_less) ∙ c.loop-place.invariant, omega arith)

pub returns : goal.returns
returns c =
    let past : (length c.args.words.now) ≡ c.loop-place.place = omega arith in
    (past ∙ sym (sought_end (number_in c.args.words.now) c.args.wanted c.loop-place.place (length c.args.words.now) (omega arith)) ∙ c.loop-place.invariant, omega arith)
