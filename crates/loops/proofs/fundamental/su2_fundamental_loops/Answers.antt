use Rattle.std.proofs.Common.{arith}
use Rattle.complex.specs.Complex.{complex_of}
use Rattle.complex.proofs.Accepting.{accepted}
use Rattle.loops.proofs.AcceptedLoops.{steps_most}
use Rattle.loops.proofs.LoopsTold.{without_directions}
use Rattle.loops.proofs.fundamental.su2_fundamental_loops.Goals as goal

-- the list of directions has room for those of every record that is accepted
pub returns : goal.returns
returns c = without_directions _ _ _ _ (λ good. steps_most (complex_of c.args.c) ((accepted c.args.c).0 good) _ (omega arith)) c.fundamental_loops.ensures
