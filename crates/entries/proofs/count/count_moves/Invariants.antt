use Rattle.std.proofs.Common.{◌≡◌, ◌*◌, ◌≤◌}
use Rattle.entries.specs.Count.{moves_stay}
use Rattle.entries.proofs.count.count_moves.Given as goal

abbrev pub invariant-loop-t : goal.invariant-loop-t
invariant-loop-t l = record {
  counted : l.count ≡ moves_stay l.lambda l.state l.all l.t;
  few : l.count ≤ 2 * l.t;
}
