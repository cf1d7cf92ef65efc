-- What was written are the first of the bytes, and each call leaves fewer bytes to write or fewer tries.
use Rattle.std.proofs.Common.{length, take, ◌≤◌, ◌+◌, ◌-◌}
use Rattle.std.specs.Io.KnownBytes.{Appends}
use Rattle.streams.proofs.write_output.Given as goal

abbrev pub invariant-loop-n : goal.invariant-loop-n
invariant-loop-n g l =
    record {
      inside : l.n ≤ length l.bytes;
      given : Appends (g.W.Write.contents l.initial.output) (g.W.Write.contents l.output) (take l.n l.bytes);
    }

abbrev pub decreases-loop-n : goal.decreases-loop-n
decreases-loop-n g l = length l.bytes - l.n + l.tries
