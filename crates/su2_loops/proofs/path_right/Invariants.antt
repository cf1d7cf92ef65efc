use Rattle.std.proofs.Common.{◌≡◌, take}
use Rattle.su2_loops.specs.Loop.{path_right}
use Rattle.su2_loops.proofs.path_right.Given as goal

abbrev pub invariant-loop-edge : goal.invariant-loop-edge
invariant-loop-edge l = l.so_far ≡ path_right l.n (take l.edge-index l.path)
