use Rattle.std.proofs.Common.{pos, ◌∙◌}
use Rattle.plaquettes.proofs.TriangleRows.{first_ready, second_ready, third_ready, one_small}
use Rattle.plaquettes.proofs.triangle.shift_row.Goals as goal

pub move_edge-requires : goal.move_edge-requires
move_edge-requires c = first_ready _ _ c.requires (pos 1) one_small

pub move_edge-requires-2 : goal.move_edge-requires-2
move_edge-requires-2 c = rw c.move_edge.ensures (second_ready _ _ c.requires (pos 1) one_small)

pub move_edge-requires-3 : goal.move_edge-requires-3
move_edge-requires-3 c = rw (c.move_edge-2.ensures, c.move_edge.ensures) (third_ready _ _ c.requires (pos 1) one_small)

pub returns : goal.returns
returns c = c.move_edge-3.ensures ∙ rw (c.move_edge-2.ensures, c.move_edge.ensures)
