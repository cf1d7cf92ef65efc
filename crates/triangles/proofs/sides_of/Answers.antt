use Rattle.triangles.proofs.SidesFound.{sided_read, sides_are}
use Rattle.triangles.proofs.sides_of.Goals as goal

pub edge_number-requires : goal.edge_number-requires
edge_number-requires c = let s = sided_read _ _ _ _ _ _ c.triangle-i.ensures.first c.triangle-i.ensures.second c.triangle-i.ensures.third c.requires.1 in (s.a_small, s.b_small)

pub overflow_sub-result : goal.overflow_sub-result
overflow_sub-result c = let s = sided_read _ _ _ _ _ _ c.triangle-i.ensures.first c.triangle-i.ensures.second c.triangle-i.ensures.third c.requires.1 in rw c.edge_number.ensures s.ab

pub edge_number-requires-2 : goal.edge_number-requires-2
edge_number-requires-2 c = let s = sided_read _ _ _ _ _ _ c.triangle-i.ensures.first c.triangle-i.ensures.second c.triangle-i.ensures.third c.requires.1 in (s.a_small, s.c_small)

pub overflow_sub-result-2 : goal.overflow_sub-result-2
overflow_sub-result-2 c = let s = sided_read _ _ _ _ _ _ c.triangle-i.ensures.first c.triangle-i.ensures.second c.triangle-i.ensures.third c.requires.1 in rw c.edge_number-2.ensures s.ac

pub edge_number-requires-3 : goal.edge_number-requires-3
edge_number-requires-3 c = let s = sided_read _ _ _ _ _ _ c.triangle-i.ensures.first c.triangle-i.ensures.second c.triangle-i.ensures.third c.requires.1 in (s.b_small, s.c_small)

pub overflow_sub-result-3 : goal.overflow_sub-result-3
overflow_sub-result-3 c = let s = sided_read _ _ _ _ _ _ c.triangle-i.ensures.first c.triangle-i.ensures.second c.triangle-i.ensures.third c.requires.1 in rw c.edge_number-3.ensures s.bc

pub returns : goal.returns
returns c =
    sides_are _ _ _ _ _ _ c.triangle-i.ensures.first c.triangle-i.ensures.second c.triangle-i.ensures.third c.edge_number.ensures c.edge_number-2.ensures c.edge_number-3.ensures
