use Rattle.std.proofs.Common.{◌≡◌, ◌+◌, ◌*◌, ◌-◌, length}
use Rattle.moves.specs.Numbers.{numeral, digit, number}
use Rattle.moves.proofs.number.Digits.number.Given as goal

-- the first of the digits are still to come
abbrev pub invariant-loop-edge : goal.invariant-loop-edge
invariant-loop-edge l =
    numeral (2 * l.self.lambda + 1) (digit l.low l.self.free.now l.row) (l.self.n - length l.yielded) l.a ≡ number l.self.lambda l.low l.self.free.now l.self.n l.row
