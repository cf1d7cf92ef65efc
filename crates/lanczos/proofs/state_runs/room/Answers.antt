use Rattle.lanczos.proofs.Rooms.{gap_asked, room_told, room_still}
use Rattle.lanczos.proofs.state_runs.room.Goals as goal

pub returns-then-sign-eq0 : goal.returns-then-sign-eq0
returns-then-sign-eq0 c = room_still _ _ _ c.requires.0 c.ranges.sign c.if-sign-eq0.true _ c.requires.3

pub gap-requires : goal.gap-requires
gap-requires c = gap_asked c.requires.1 c.args.x c.args.sign c.requires.0 c.requires.2 c.turned.ensures

pub returns : goal.returns
returns c = room_told c.requires.1 c.args.x c.args.sign c.requires.0 c.requires.2 c.turned.ensures c.requires.3 c.gap.ensures c.min.ensures
