use Rattle.std.proofs.lemmas.List.{set-append_left}
use Rattle.mathematics.proofs.Signed.{back32}
use Rattle.shifts.proofs.shifted_row.Goals as goal

pub returns : goal.returns
returns c = rw (c.copy_from_slice.ensures.after, back32 c.args.value c.ranges.value.sfits) (set-append_left _ _ _ _ c.requires.0)
