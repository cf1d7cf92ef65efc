-- The tables of the moves as the code holds them.
use Rattle.moves.specs.declared.tables.MoveTables.{MoveTables}
use Rattle.moves.specs.Moves.{Moves, tables}

-- the moves in them
abbrev pub moves_of : MoveTables → Moves
moves_of t = tables t.all.now t.keys.now t.terms.now
