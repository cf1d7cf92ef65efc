-- The walk as the code holds it.
use Rattle.std.specs.Prelude.{ℕ, List, length}
use Rattle.csr.specs.declared.fill.RowTables.{RowTables}
use Rattle.csr.specs.Fill.{Walk, walk_of}

-- the walk by the tables, with words that hold the numbers of the states
abbrev pub walk_by : RowTables → List ℕ → Walk
walk_by t words =
    walk_of t.moves.all.now t.moves.keys.now t.moves.terms.now (length t.moves.keys.now) t.moves.lambda words t.sizes.states t.list.now t.sizes.edges t.electric
