use Rattle.std.proofs.Common.{◌≡◌}
use Rattle.complex.specs.Complex.{complex_of}
use Rattle.matrices.specs.Weights.{weight, is_given, given_list}
use Rattle.lanczos.specs.Matvec.{triangles_added}
use Rattle.lanczos.proofs.matvec.add_magnetic.Given as goal

abbrev pub invariant-loop-t : goal.invariant-loop-t
invariant-loop-t l = l.res ≡ triangles_added (complex_of l.fn.c) l.s.lambda l.p (weight (is_given l.weights) (given_list l.weights)) l.vector l.t l.fn.res
