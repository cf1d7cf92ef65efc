use Rattle.std.proofs.Common.{◌≡◌, take, length}
use Rattle.mathematics.specs.Tests.{every_entry}
use Rattle.wilson.specs.Wilson.{path_of, step_right}
use Rattle.wilson.proofs.Path.is_right.Given as goal

abbrev pub invariant-loop-edge : goal.invariant-loop-edge
invariant-loop-edge l = l.so_far ≡ every_entry (step_right l.m) (take (length l.yielded) (path_of l.self.edges.now l.self.directions.now))
