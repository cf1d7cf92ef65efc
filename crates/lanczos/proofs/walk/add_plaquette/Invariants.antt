use Rattle.std.proofs.Common.{ℕ, ◌-◌, ◌≤◌, List}
use Rattle.complex.specs.Complex.{Complex}
use Rattle.plaquettes.specs.Targets.{BasisList}
use Rattle.triangles.specs.Indices.{SidesOf}
use Rattle.lanczos.specs.Runs.{FirstCycle}
use Rattle.lanczos.proofs.Folds.{Way}
use Rattle.lanczos.proofs.walk.add_plaquette.Given as goal

abbrev pub invariant-loop-i : goal.invariant-loop-i
invariant-loop-i l = record {
  from_inside : l.i ≤ l.tables.sizes.states;
  to_inside : l.j ≤ l.tables.sizes.states;
  way : (complex : Complex) (t : ℕ) (free : List ℕ) → BasisList complex l.tables.list.now l.tables.sizes free → SidesOf complex t l.tables.sides → FirstCycle complex l.tables.cycle.now
      → Way complex l.tables.sizes t l.x l.vector l.i l.j l.fn.res l.res;
}

abbrev pub decreases-loop-i : goal.decreases-loop-i
decreases-loop-i l = l.tables.sizes.states - l.i
