-- What the walk over runs is given.
use Rattle.lanczos.specs.declared.state_runs.RunTables.{RunTables}
use Rattle.lanczos.specs.Runs.{RunRows}

-- the rows of the list are within the bounds, and the edges are those of the cycle
abbrev pub Runs : RunTables → Type 0
Runs t = RunRows t.list.now t.sizes t.sides t.edges.now.list t.edges.now.count t.cycle.now
