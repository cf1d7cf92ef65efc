use Rattle.std.proofs.Common.{◌≡◌}
use Rattle.su2_even_sets.specs.Forest.{Joined}
use Rattle.su2_even_sets.proofs.Forest.join.Given as goal

abbrev pub invariant-loop-v : goal.invariant-loop-v
invariant-loop-v l = record {
  tables : Joined l.initial.self.part l.initial.self.path l.from l.to l.cycle l.v l.self.part l.self.path;
  loops : (l.self.closing ≡ l.initial.self.closing) × (l.self.loops ≡ l.initial.self.loops) × (l.self.count ≡ l.initial.self.count);
}
