use Rattle.std.proofs.Common.{◌≡◌, ◌-◌, length}
use Rattle.cycles.specs.Cycles.{row}
use Rattle.walker.specs.Walker.{stepped}
use Rattle.walker.proofs.Stepping.{Turned}
use Rattle.walker.proofs.tables.Walker.step.Given as goal

abbrev pub invariant-loop-j : goal.invariant-loop-j
invariant-loop-j l = record {
  turned : Turned (length l.initial.config) l.j l.config;
  to_come : stepped l.self.free (row (length l.initial.config) l.self.cycles) l.lambda (l.self.n_free - l.j) l.j l.config ≡ stepped l.self.free (row (length l.initial.config) l.self.cycles) l.lambda (l.self.n_free - l.fn.from) l.fn.from l.initial.config;
}
