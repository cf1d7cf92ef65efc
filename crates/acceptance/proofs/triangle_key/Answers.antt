use Rattle.std.proofs.Common.{arith}
use Rattle.complex.proofs.Triangles.{known_first, known_number, key_is}
use Rattle.acceptance.proofs.triangle_key.Goals as goal

pub edge_number-requires : goal.edge_number-requires
edge_number-requires c =
    let e = c.triangle-x.ensures in
    let small = known_first _ _ _ _ _ e.first e.second e.third _ c.requires.1 in
    (small.0, small.1)

pub overflow_sub-result : goal.overflow_sub-result
overflow_sub-result c =
    let e = c.triangle-x.ensures in
    rw c.edge_number.ensures (known_number _ _ _ _ _ e.first e.second e.third _ c.requires.1).0

pub overflow_add-result : goal.overflow_add-result
overflow_add-result c =
    let e = c.triangle-x.ensures in
    omega (arith, c.edge_number.ensures, known_number _ _ _ _ _ e.first e.second e.third _ c.requires.1, known_first _ _ _ _ _ e.first e.second e.third _ c.requires.1)

pub returns : goal.returns
returns c =
    let e = c.triangle-x.ensures in
    let number = known_number _ _ _ _ _ e.first e.second e.third _ c.requires.1 in
    let small = known_first _ _ _ _ _ e.first e.second e.third _ c.requires.1 in
    (rw c.edge_number.ensures (key_is _ _ _ _ _ e.first e.second e.third _ c.requires.1), omega (arith, c.edge_number.ensures, number, small))
