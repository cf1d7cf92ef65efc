use Rattle.std.proofs.Common.{◌∙◌, arith}
use Rattle.complex.proofs.Chunks.{pairs}
use Rattle.complex.proofs.SimplicialComplex.edge_pairs.Goals as goal

pub returns : goal.returns
returns c = c.as_chunks.ensures.front ∙ pairs c.args.self.now.edges c.args.self.now.n_edges (omega arith)
