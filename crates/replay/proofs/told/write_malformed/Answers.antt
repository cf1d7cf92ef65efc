-- The end of the line is put behind the place, and there is room for both.
use Rattle.std.proofs.Common.{ℕ, ◌+◌, ◌≤◌, List, ◌++◌, arith, length}
use Rattle.lines.specs.Lines.{ascii, named}
use Rattle.lines.specs.Put.{Put}
use Rattle.lines.proofs.Puts.{both, room_first, room_second, ends_inside}
use Rattle.replay.specs.Text.{malformed_line}
use Rattle.replay.proofs.Texts.{malformed_line_long}
use Rattle.replay.proofs.told.write_malformed.Goals as goal

-- the first text, and room for it and the end of the line
abbrev placed : ℕ → List ℕ
placed at = named "malformed at byte " at

room_2 : (out : List ℕ) (at : ℕ) → length (malformed_line at) ≤ 39 → 65 ≤ length out → 0 + length (placed at ++ ascii "\n") ≤ length out
unfolding malformed_line
room_2 out at long room = omega arith

room_1 : (out : List ℕ) (at : ℕ) → length (malformed_line at) ≤ 39 → 65 ≤ length out → 0 + length (placed at) ≤ length out
room_1 out at long room = room_first (placed at) (ascii "\n") _ _ (room_2 out at long room)

pub write_named-next-requires : goal.write_named-next-requires
unfolding named ascii
write_named-next-requires c = room_1 c.args.out.now c.args.at (malformed_line_long _ c.ranges.at.fits) c.requires

pub write_byte-requires : goal.write_byte-requires
unfolding named ascii
write_byte-requires c =
    let room =
    room_second (placed c.args.at) (ascii "\n") _ _ _ _ (room_2 c.args.out.now c.args.at (malformed_line_long _ c.ranges.at.fits) c.requires) c.write_named-next.ensures in
    omega arith

pub returns : goal.returns
unfolding malformed_line named ascii
returns c =
    let long = malformed_line_long c.args.at c.ranges.at.fits in
    let all : Put (malformed_line c.args.at) c.args.out.now 0 c.write_byte.new.out c.write_byte.result =
    both (placed c.args.at) (ascii "\n") _ _ _ _ _ _ (room_1 c.args.out.now c.args.at long c.requires) c.write_named-next.ensures c.write_byte.ensures in
    (all, ends_inside _ _ _ _ _ (room_2 c.args.out.now c.args.at long c.requires) all)
