-- The tables for counting.
use Rattle.std.specs.Prelude.{ℕ, List, ◌≡◌, ℤ}
use Rattle.runs.specs.declared.edges.Kinds.{Kinds}
use Rattle.runs.specs.declared.tables.RunTables.{RunTables}
use Rattle.runs.specs.Kinds.{listed}

-- they have two cycles z and y, the edges of each kind, the bound L, and n candidates in a block
pub record TablesOf (z y : List ℤ) (kinds : Kinds) (L n : ℕ) (t : RunTables) : Type 0 where
  pub first : t.first.now ≡ z
  pub second : t.second.now ≡ y
  pub still : t.still.now ≡ listed kinds.still
  pub side : t.side.now ≡ listed kinds.side
  pub moved : t.moved.now ≡ listed kinds.moved
  pub bound : t.lambda ≡ L
  pub wide : t.width ≡ n
