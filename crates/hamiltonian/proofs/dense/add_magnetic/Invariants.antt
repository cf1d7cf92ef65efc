use Rattle.std.proofs.Common.{List}
use lib.Ieee.{Float}
use Rattle.complex.specs.Complex.{complex_of}
use Rattle.matrices.specs.Weights.{weight, is_given, given_list}
use Rattle.matrices.specs.Matrix.{Matrix}
use Rattle.hamiltonian.specs.Dense.{u1_entry}
use Rattle.hamiltonian.proofs.dense.add_magnetic.Given as goal

abbrev pub invariant-loop-t : goal.invariant-loop-t
invariant-loop-t l = (old : List Float) → Matrix (u1_entry (complex_of l.fn.c) l.s.lambda l.p (weight (is_given l.weights) (given_list l.weights)) 0) l.s.states old l.fn.h
    → Matrix (u1_entry (complex_of l.fn.c) l.s.lambda l.p (weight (is_given l.weights) (given_list l.weights)) l.t) l.s.states old l.h
