-- The lists of edges that the code keeps, by their kinds.
use Rattle.std.specs.Prelude.{ℕ, List, ℤ, length, take}
use Rattle.numbers.specs.declared.edge_list.EdgeList.{EdgeList}
use Rattle.runs.specs.declared.edges.Kinds.{Kinds}
use Rattle.runs.specs.Edges.{Edges}

-- the edges in a list
abbrev pub listed : EdgeList → List ℕ
listed l = take l.count l.list

-- a list has the edges of one kind among the first m
abbrev pub EdgesIn : List ℤ → List ℤ → ℕ → ℕ → EdgeList → Type 0
EdgesIn first second k m l = Edges first second k m (listed l) (length (listed l))

-- the lists of all kinds
pub record KindsOf (first second : List ℤ) (m : ℕ) (kinds : Kinds) : Type 0 where
  pub still : EdgesIn first second 0 m kinds.still
  pub side : EdgesIn first second 1 m kinds.side
  pub moved : EdgesIn first second 2 m kinds.moved
