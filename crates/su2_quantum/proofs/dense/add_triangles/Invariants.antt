use Rattle.std.proofs.Common.{List, Float}
use Rattle.complex.specs.Complex.{complex_of}
use Rattle.matrices.specs.Weights.{weight, is_given, given_list}
use Rattle.matrices.specs.Matrix.{Matrix}
use Rattle.su2_quantum.specs.Dense.{su2_electric_entry, su2_entry}
use Rattle.su2_quantum.proofs.dense.add_triangles.Given as goal

abbrev pub invariant-loop-t : goal.invariant-loop-t
invariant-loop-t l =
    (old : List Float) → Matrix (su2_electric_entry (complex_of l.fn.c) l.p) l.n old l.initial.h → Matrix (su2_entry (complex_of l.fn.c) l.p (weight (is_given l.weights) (given_list l.weights)) l.t) l.n old l.h
