use Rattle.std.proofs.Common.{◌≡◌, ◌++◌, ◌^◌, length, drop}
use Rattle.su2_even_sets.specs.Loops.{loop_sums}
use Rattle.su2_masks.proofs.write_masks.Given as goal

abbrev pub invariant-loop-cycle : goal.invariant-loop-cycle
invariant-loop-cycle l = record {
  unit : l.count ≡ 2 ^ l.cycle-index;
  long : length l.states ≡ length l.fn.states;
  made : l.states ≡ loop_sums l.loops l.cycle-index ++ drop (2 ^ l.cycle-index) l.initial.states;
}
