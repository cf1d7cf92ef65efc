use Rattle.std.proofs.Common.{rules, arith}
use Rattle.runs.proofs.Raising.{first_fits, last_fits, back_room, middle_may, all_written}
use Rattle.runs.proofs.tables.RunTables.write_beside.Goals as goal

pub write_rows-requires-2 : goal.write_rows-requires-2
write_rows-requires-2 c =
    let fits = first_fits _ _ _ _ _ _ _ c.max-low.ensures c.min-high.ensures (search rules) c.requires.3 in
    (c.requires.0, omega (arith, c.requires.2, fits.0), fits.1, c.requires.6)

pub overflow_mul-end : goal.overflow_mul-end
overflow_mul-end c =
    let back = back_room _ _ c.requires.0 c.requires.1 c.requires.4 c.max-low.ensures c.min-high.ensures (search rules) c.requires.3 in
    search rules

pub raise_rows-requires : goal.raise_rows-requires
raise_rows-requires c = (
  middle_may _ _ c.requires.0 c.requires.1 c.requires.4 c.max-low.ensures c.min-high.ensures (search rules) c.requires.3 c.write_rows-2.ensures c.requires.2,
  c.requires.5,
  search rules,
  rw c.requires.1.sized c.requires.7,
)

pub write_rows-requires-3 : goal.write_rows-requires-3
write_rows-requires-3 c =
    let fits = last_fits _ _ _ _ _ _ _ c.max-low.ensures c.min-high.ensures (search rules) c.requires.3 in
    (c.requires.0, c.requires.2, rw (c.raise_rows.auto.states, c.write_rows-2.auto.states) fits, c.requires.6)

pub returns : goal.returns
returns c = all_written _ _ c.requires.0 c.requires.1 c.requires.4 c.max-low.ensures c.min-high.ensures (search rules) c.requires.3 c.write_rows-2.ensures c.raise_rows.ensures c.write_rows-3.ensures
