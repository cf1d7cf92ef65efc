use Rattle.std.proofs.Common.{ℕ, ◌≤◌, List}
use Rattle.complex.specs.Complex.{Complex}
use Rattle.plaquettes.specs.Targets.{BasisList}
use Rattle.triangles.specs.Indices.{SidesOf}
use Rattle.hamiltonian.proofs.Plaquettes.{Way}
use Rattle.hamiltonian.proofs.walk.add_plaquette.Given as goal

abbrev pub invariant-loop-i : goal.invariant-loop-i
invariant-loop-i l = record {
  inside : l.from ≤ l.s.states;
  way : (complex : Complex) (t : ℕ) (free : List ℕ) → BasisList complex l.list l.s free → SidesOf complex t l.sides → Way complex l.s t l.x l.i l.from l.fn.h l.h;
}
