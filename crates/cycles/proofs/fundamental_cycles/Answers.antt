use Rattle.std.proofs.Common.{◌≡◌, ◌∙◌, length, arith}
use Rattle.cycles.proofs.CycleTables.{inside_code, close_ready, close_more, no_cycles}
use Rattle.cycles.proofs.fundamental_cycles.Goals as goal

pub loop-j-init : goal.loop-j-init
loop-j-init c = no_cycles c.args.c c.requires.0 c.args.paths.now c.requires.1 c.args.free c.requires.2

pub close_cycle-requires : goal.close_cycle-requires
close_cycle-requires c =
    let of = c.requires.2 in
    let same = c.as_slice-f-items.ensures ∙ of.stands in
    let more = rw same at c.loop-j-test.true in
    rw (c.from.ensures, same) (
      omega (arith, of.few, of.count, more),
      inside_code c.args.c c.requires.0 c.args.paths.now c.requires.1 c.args.free of c.loop-j.j more,
      close_ready c.args.c c.requires.0 c.args.paths.now c.requires.1 c.args.free of c.loop-j.j more,
      c.loop-j.invariant.long,
    )

pub loop-j-preserved : goal.loop-j-preserved
loop-j-preserved c =
    let of = c.requires.2 in
    let same = c.as_slice-f-items.ensures ∙ of.stands in
    rw (c.close_cycle.ensures, c.from.ensures, same)
    (close_more c.args.c c.requires.0 c.args.paths.now c.requires.1 c.args.free of c.loop-j.j (rw same at c.loop-j-test.true) c.loop-j.cycles c.loop-j.invariant)

pub returns : goal.returns
returns c =
    let past : c.loop-j.j ≡ length c.as_slice-f-items.result.now = omega arith in
    rw (past, c.as_slice-f-items.ensures, c.requires.2.stands) at c.loop-j.invariant
