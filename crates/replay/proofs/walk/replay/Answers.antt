-- Each case is counted once, and where none is left all are.
use Rattle.std.proofs.Common.{sym, ap, ◌∙◌, arith}
use Rattle.std.specs.Prelude.{not}
use Rattle.recorded_fields.specs.Layout.{Whole}
use Rattle.recorded_fields.proofs.Fields.{later, whole_of}
use Rattle.replay.proofs.Walking.{walked_none, walked_next, walked_all, one_more, none_more}
use Rattle.replay.proofs.walk.replay.Goals as goal
use Rattle.replay.proofs.walk.replay.Goals.{then-not-case_same, else-not-case_same}

pub loop-differ-init : goal.loop-differ-init
loop-differ-init c = walked_none _

pub invariant_of-case_same : goal.invariant_of-case_same
invariant_of-case_same c = record { whole = whole_of _ _ (sym c.stands.ensures ∙ c.loop-differ-test.true) }

pub loop-differ-smaller : goal.loop-differ-smaller
loop-differ-smaller c =
    let fits : Whole c.args.list.now c.loop-differ.at = whole_of _ _ (sym c.stands.ensures ∙ c.loop-differ-test.true) in
    omega (arith, later c.args.list.now c.loop-differ.at 15, c.place-at.ensures, fits)

pub loop-differ-preserved : goal.loop-differ-preserved
loop-differ-preserved c =
    let agrees = c.case_same.ensures in
    walked_next _ _ _ _ c.loop-differ.invariant (sym c.stands.ensures ∙ c.loop-differ-test.true) _ c.place-at.ensures _
    (elim c.if-not-case_same.branch [
      | then-not-case_same w ↦ w.differ-is ∙ rw agrees at (one_more c.case_same.result c.loop-differ.differ (ap not w.if-not-case_same.true))
      | else-not-case_same w ↦ w.differ-is ∙ rw agrees at (none_more c.case_same.result c.loop-differ.differ (ap not w.if-not-case_same.false))
    ])

pub returns-then-ends : goal.returns-then-ends
returns-then-ends c =
    sym (walked_all _ _ _ _ c.loop-differ.invariant (sym c.stands.ensures ∙ c.loop-differ-test.false) ∙ rw (sym c.ends.ensures ∙ c.if-ends.true))

pub returns : goal.returns
returns c =
    sym (walked_all _ _ _ _ c.loop-differ.invariant (sym c.stands.ensures ∙ c.loop-differ-test.false) ∙ rw (sym c.ends.ensures ∙ c.if-ends.false))
