use Rattle.std.proofs.Common.{◌^◌, ◌<◌, take}
use Rattle.su2_loops.specs.Loop.{MaskMade}
use Rattle.su2_loops.proofs.counted_mask.Given as goal

abbrev pub invariant-loop-step : goal.invariant-loop-step
invariant-loop-step g l =
    record {
      small : l.mask < 2 ^ 64;
      made : MaskMade (goal.F-post g l.put) (take l.step-index l.path) l.mask;
    }
