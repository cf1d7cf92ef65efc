use Rattle.std.proofs.Common.{◌^◌}
use Rattle.enumeration.specs.Enumeration.{Limited}
use Rattle.enumeration.proofs.power.Given as goal

abbrev pub invariant-loop : goal.invariant-loop
invariant-loop l = Limited (l.base ^ l.counter) l.product
