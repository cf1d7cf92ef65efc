use Rattle.std.proofs.Common.{rules, arith, length-set}
use Rattle.runs.proofs.Raising.{sum_fits, sum_pasted, raised_whole}
use Rattle.runs.proofs.rows.raise.Goals as goal

pub overflow_add-states-in-loop-i : goal.overflow_add-states-in-loop-i
overflow_add-states-in-loop-i c = sum_fits c.requires (omega arith) c.loop-i.invariant.list (search rules) (search rules)

pub loop-i-preserved : goal.loop-i-preserved
loop-i-preserved c = record { long = simp length-set c.loop-i.invariant.long; list = sum_pasted c.requires (omega arith) c.loop-i.invariant.list (search rules) (search rules) }

pub returns : goal.returns
returns c = raised_whole c.requires (omega arith) c.loop-i.invariant.list
