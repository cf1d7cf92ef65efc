-- No row holds one column twice.
use mathlib.Core.Path.{refl}
use mathlib.Core.Logic.{inl, inr}
use lib.IntN.{pos, negsuc}
use Rattle.complex.proofs.TriangleEdges.{edge_sets_differ}
use Rattle.plaquettes.proofs.Moves.{target_elsewhere}
use Rattle.plaquettes.proofs.Hits.{no_return}
use Rattle.plaquettes.proofs.Joined.{step_moves, arrivals_own, arrivals_joined, one_triangle}
use Rattle.entries.specs.Once.{NoColumnTwice}

pub no_column_twice : NoColumnTwice
no_column_twice c accepted L =
    record {
      edge_sets = edge_sets_differ c accepted;
      elsewhere = λ t i number h. (target_elsewhere c accepted L t number (pos 1) (step_moves (inl refl)) i h, target_elsewhere c accepted L t number (negsuc 0) (step_moves (inr refl)) i h);
      one_way = λ t i j number h k hit. no_return c accepted L t number i j h k hit;
      one_triangle = λ t u i j number number' h k joined joined'. one_triangle c accepted L t u number number' i j h k joined joined';
      others = λ i j h k. arrivals_joined c accepted L i h j k;
      once = λ i h. arrivals_own c accepted L i h;
    }
