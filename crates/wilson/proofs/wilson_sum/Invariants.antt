use Rattle.std.proofs.Common.{◌≡◌, ◌≤◌, length}
use Rattle.complex.specs.Complex.{Complex}
use Rattle.hilbert.specs.Search.{row}
use Rattle.plaquettes.specs.Targets.{BasisList}
use Rattle.wilson.specs.Wilson.{path_of}
use Rattle.wilson.specs.Walking.{Underway, Summed}
use Rattle.wilson.proofs.wilson_sum.Given as goal

abbrev pub invariant-states : goal.invariant-states
invariant-states l =
    (l.from ≤ l.s.states) × (length l.reached ≡ 63)
    × ((c : Complex) → BasisList c l.list l.s l.free → Summed c l.s.lambda l.amplitudes (path_of l.path.edges.now l.path.directions.now) l.i l.from l.total)

abbrev pub invariant-loop-edge : goal.invariant-loop-edge
invariant-loop-edge l = Underway l.s.lambda l.s.edges (row l.s.edges l.list l.i) (path_of l.path.edges.now l.path.directions.now) (length l.yielded) l.reached
