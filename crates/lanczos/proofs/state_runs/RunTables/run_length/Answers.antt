use Rattle.std.proofs.Common.{◌≡◌, arith, to_z, of_z, w32}
use Rattle.mathematics.proofs.Signed.{small_back}
use Rattle.plaquettes.proofs.Listed.{row_room}
use Rattle.plaquettes.proofs.Pairing.{row_movable}
use Rattle.lanczos.proofs.Rooms.{run_banded}
use Rattle.lanczos.proofs.Running.{cycle_shorter, move_shorter}
use Rattle.lanczos.proofs.state_runs.RunTables.run_length.Goals as goal

pub row_at-row-requires : goal.row_at-row-requires
row_at-row-requires c = (row_room _ _ _ c.requires.0.movable.rows c.args.place c.requires.2).0

pub cycle_run-r-requires : goal.cycle_run-r-requires
cycle_run-r-requires c = rw c.row_at-row.ensures (run_banded _ _ _ _ _ _ c.requires.0 c.args.place c.requires.2, c.requires.0.covers, omega (arith, c.requires.2))

pub move_run-requires : goal.move_run-requires
move_run-requires c =
    let unit : to_z w32 (of_z w32 c.args.by) ≡ c.args.by = small_back _ (omega (arith, c.requires.1)) in
    rw (c.row_at-row.ensures, unit)
    (run_banded _ _ _ _ _ _ c.requires.0 c.args.place c.requires.2, row_movable _ _ _ c.requires.0.movable c.args.place c.requires.2, c.requires.1, c.requires.3, c.cycle_run-r.ensures.some)

pub returns : goal.returns
returns c =
    let unit : to_z w32 (of_z w32 c.args.by) ≡ c.args.by = small_back _ (omega (arith, c.requires.1)) in
    let cycle = rw c.row_at-row.ensures at c.cycle_run-r.ensures in
    let moves = rw (c.row_at-row.ensures, unit) at c.move_run.ensures in
    record { cycle = cycle_shorter _ _ _ _ _ _ _ _ moves.some moves.limited cycle; moves = move_shorter _ _ _ _ _ _ _ _ moves.some (omega arith) moves }
