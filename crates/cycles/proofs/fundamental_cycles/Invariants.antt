use Rattle.complex.specs.Complex.{complex_of}
use Rattle.cycles.specs.Cycles.{CycleTable}
use Rattle.cycles.proofs.fundamental_cycles.Given as goal

abbrev pub invariant-loop-j : goal.invariant-loop-j
invariant-loop-j l = CycleTable (complex_of l.c) l.j l.cycles
