use Rattle.std.proofs.Common.{◌≡◌, ◌^◌}
use Rattle.su2_even_sets.specs.Loops.{closing_bits}
use Rattle.su2_masks.proofs.place.closing_bits.Given as goal

abbrev pub invariant-loop-edge : goal.invariant-loop-edge
invariant-loop-edge l = record {
  unit : l.unit ≡ 2 ^ l.edge-index;
  place : l.place ≡ closing_bits l.closing l.x l.edge-index;
}
