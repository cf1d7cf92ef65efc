-- What is known of a record once its edges are in the table.
use Rattle.std.proofs.Common.{◌≡◌, ℕ, List, Bool, true, sym, ◌∙◌}
use Rattle.mathematics.specs.Tests.{every_entry}
use Rattle.complex.specs.declared.SimplicialComplex.{SimplicialComplex}
use Rattle.complex.specs.Judge.{rising}
use Rattle.complex.proofs.Judging.{counts_of, edges_of, Indexed, edges_right}
use Rattle.acceptance.specs.Once.{EdgesIndexed}

pub edges_indexed : (c : SimplicialComplex) {table : List ℕ} {a b d : Bool} → a ≡ counts_of c → a ≡ true → b ≡ every_entry (rising c.n_vertices) (edges_of c) → b ≡ true → EdgesIndexed table d (edges_of c) → d ≡ true → Indexed c table
edges_indexed c counted right risen rise indexed once =
    record {
      right = sym counted ∙ right;
      edges = edges_right c (sym risen ∙ rise) (sym indexed.once ∙ once);
      index = indexed.index once;
    }
