-- A write takes the first of the bytes that it is handed, which are those behind what was written.
use Rattle.std.proofs.Common.{rules, ◌+◌, ◌≤◌, length, subst}
use Rattle.std.specs.Io.KnownBytes.{Appends}
use Rattle.std.proofs.KnownBytes.{Appends-trans}
use Rattle.streams.proofs.Bytes.{given_up_to}
use Rattle.streams.proofs.write_output.Goals as goal

pub loop-n-preserved-in-Ok : goal.loop-n-preserved-in-Ok
loop-n-preserved-in-Ok g c =
    let n = c.loop-n.n in
    let written = c.in-Ok.written in
    let bytes = c.args.bytes.now in
    let fits : n + written ≤ length bytes = search rules in
    record {
      inside = fits;
      given = subst (Appends _ _) (given_up_to bytes n written fits) (Appends-trans _ _ _ _ _ c.loop-n.invariant.given c.in-Ok.ensures.bytes);
    }
