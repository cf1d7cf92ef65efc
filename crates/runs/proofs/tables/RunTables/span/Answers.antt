use Rattle.std.proofs.Common.{arith}
use Rattle.walker.proofs.Walk.{added_none}
use Rattle.runs.proofs.RunRows.{may_add}
use Rattle.runs.proofs.Sides.{side_span, side_none}
use Rattle.runs.proofs.tables.RunTables.span.Goals as goal

pub span_over-requires : goal.span_over-requires
span_over-requires c =
    let small = c.requires.3 in (
      c.requires.1,
      c.requires.2,
      may_add c.requires.2 small (omega arith) c.requires.4,
      (λ e. rw (added_none c.args.config.now c.args.self.now.second.now) (small e)),
      c.requires.4,
      c.requires.5,
    )

pub returns-then-all_within : goal.returns-then-all_within
returns-then-all_within c = side_span c.requires.4 c.requires.1 (c.all_within.ensures.all c.if-all_within.true) c.span_over.ensures

pub returns : goal.returns
returns c = side_none (c.all_within.ensures.some c.if-all_within.false)
