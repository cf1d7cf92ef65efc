-- What was read stands in the list, and each call leaves fewer bytes to read or fewer tries.
use Rattle.std.proofs.Common.{length, take, ◌≡◌, ◌≤◌, ◌+◌, ◌-◌}
use Rattle.std.specs.Io.KnownBytes.{Consumes}
use Rattle.streams.proofs.read_input.Given as goal

abbrev pub invariant-loop-n : goal.invariant-loop-n
invariant-loop-n g l =
    record {
      long : length l.list ≡ length l.initial.list;
      inside : l.n ≤ length l.list;
      taken : Consumes (g.R.Read.remaining l.initial.input) (g.R.Read.remaining l.input) (take l.n l.list);
    }

abbrev pub decreases-loop-n : goal.decreases-loop-n
decreases-loop-n g l = length l.list - l.n + l.tries
