use Rattle.std.proofs.Common.{◌≡◌, ◌-◌, length}
use Rattle.moves.specs.Numbers.{sought, number_in}
use Rattle.moves.proofs.seek.seek.Given as goal

abbrev pub invariant-loop-place : goal.invariant-loop-place
invariant-loop-place l = sought (number_in l.words) l.wanted l.place ((length l.words) - l.place) ≡ sought (number_in l.words) l.wanted l.fn.from ((length l.words) - l.fn.from)
