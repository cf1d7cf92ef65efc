use Rattle.std.proofs.Common.{refl, ◌∙◌}
use Rattle.complex.specs.Complex.{complex_of}
use Rattle.complex.proofs.Accepting.{counts_own}
use Rattle.complex.proofs.Judging.{ends_own, once_own}
use Rattle.triangles.proofs.edge_table.Goals as goal

pub index_edges-requires : goal.index_edges-requires
index_edges-requires c = ((counts_own _ c.requires).edges, refl, ends_own _ c.requires)

pub returns : goal.returns
unfolding complex_of
returns c = c.index_edges.ensures.index (c.index_edges.ensures.once ∙ once_own _ c.requires)
