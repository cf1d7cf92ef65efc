use Rattle.std.proofs.Common.{◌<◌, ◌^◌, arith}
use lib.Signed.{mag}
use Rattle.mathematics.proofs.Signed.{back64}
use Rattle.lines.proofs.Puts.{ends_inside, put_take}
use Rattle.checking.specs.Text.{finding_line}
use Rattle.checking.proofs.Lines.{unlawful_room, outside_room}
use Rattle.checking.proofs.write_finding.Goals as goal

pub write_unlawful_line-requires : goal.write_unlawful_line-requires
write_unlawful_line-requires c =
    let f = c.in-BreaksLaw.f in
    let small : mag f.excess < 2 ^ 63 = omega arith in
    rw (back64 f.excess small) (unlawful_room f.vertex _ f.excess c.requires (omega arith) small)

pub write_outside_line-requires : goal.write_outside_line-requires
write_outside_line-requires c = outside_room _ _ _ c.requires (omega arith) (omega arith)

pub returns-in-BreaksLaw : goal.returns-in-BreaksLaw
unfolding finding_line
returns-in-BreaksLaw c =
    let f = c.in-BreaksLaw.f in
    let small : mag f.excess < 2 ^ 63 = omega arith in
    let room = unlawful_room f.vertex _ f.excess c.requires (omega arith) small in
    let written = rw (back64 f.excess small) at c.write_unlawful_line.ensures in
    rw c.in-BreaksLaw.is (record { bytes = put_take _ _ _ 0 _ room written; fits = ends_inside _ _ _ 0 _ room written })

pub returns-in-OutsideBand : goal.returns-in-OutsideBand
unfolding finding_line
returns-in-OutsideBand c =
    let written = c.write_outside_line.ensures in
    let room = outside_room c.in-OutsideBand.edge c.args.lambda _ c.requires (omega arith) c.ranges.lambda.fits in
    rw c.in-OutsideBand.is (record { bytes = put_take _ _ _ 0 _ room written; fits = ends_inside _ _ _ 0 _ room written })
