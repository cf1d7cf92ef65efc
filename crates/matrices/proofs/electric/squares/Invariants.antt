use Rattle.std.proofs.Common.{◌≡◌, ◌*◌, ◌≤◌, take}
use Rattle.matrices.specs.Squares.{squares}
use Rattle.matrices.proofs.electric.squares.Given as goal

abbrev pub invariant-loop-x : goal.invariant-loop-x
invariant-loop-x l = (l.sum ≡ squares (take l.x-index l.state)) × (l.sum ≤ 1000000 * l.x-index)
