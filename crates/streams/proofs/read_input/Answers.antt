-- A read puts bytes behind those that were read.
use Rattle.std.proofs.Common.{rules, ◌-◌, length, subst}
use Rattle.std.specs.Io.KnownBytes.{Consumes}
use Rattle.std.proofs.KnownBytes.{Consumes-trans}
use Rattle.streams.proofs.Bytes.{taken_up_to}
use Rattle.streams.proofs.read_input.Goals as goal

pub loop-n-preserved-in-Ok : goal.loop-n-preserved-in-Ok
loop-n-preserved-in-Ok g c =
    let n = c.loop-n.n in
    let list = c.loop-n.list in
    record {
      long = search rules;
      inside = search rules;
      taken =
          subst (Consumes _ _) (taken_up_to n (length list - n) c.in-Ok.read list c.read.new.buf c.loop-n.invariant.inside c.in-Ok.ensures.bound.0)
          (Consumes-trans _ _ _ _ _ c.loop-n.invariant.taken c.in-Ok.ensures.bytes.0);
    }
