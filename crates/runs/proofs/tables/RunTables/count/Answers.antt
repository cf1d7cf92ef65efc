use Rattle.std.proofs.Common.{◌≡◌, pos, length, to_z, w32, sym, ap, ◌∙◌, arith}
use Rattle.std.proofs.lemmas.Int.{to_z_pos}
use Rattle.runs.proofs.Between.{between_none, between_same}
use Rattle.runs.proofs.EdgeLists.{edges_listed}
use Rattle.runs.proofs.RunRows.{may_add, times_back, turn}
use Rattle.runs.proofs.tables.RunTables.count.Goals as goal

pub loop-i-init : goal.loop-i-init
loop-i-init c = record { below = omega arith; count = sym (ap length (between_none _ _ _ (omega arith))) }

pub span_over-requires : goal.span_over-requires
span_over-requires c =
    let fit = c.requires.0 in
    let times : to_z w32 c.loop-i.i ≡ pos c.loop-i.i = to_z_pos w32 _ (omega (arith, fit.few)) in
    rw times (
      edges_listed c.requires.2,
      fit.first_long,
      may_add fit.second_long fit.start (omega (arith, fit.few)) fit.second_signs,
      fit.values c.loop-i.i c.loop-i-test.true,
      fit.first_signs,
      fit.truncation,
    )

pub overflow_add-count : goal.overflow_add-count
overflow_add-count c =
    let more = turn c.requires.0 c.requires.1 c.requires.2 c.loop-i.auto.i c.loop-i-test.true (times_back _ _ _ (omega (arith, c.requires.0.few))) c.span_over.ensures in
    omega (arith, c.size-count.ensures, c.loop-i.invariant.count, more.counts, more.countable)

pub loop-i-preserved : goal.loop-i-preserved
loop-i-preserved c =
    let more = turn c.requires.0 c.requires.1 c.requires.2 c.loop-i.auto.i c.loop-i-test.true (times_back _ _ _ (omega (arith, c.requires.0.few))) c.span_over.ensures in
    record { below = omega arith; count = omega arith }

pub returns : goal.returns
returns c =
    let low = c.loop-i.auto.i in
    c.loop-i.invariant.count ∙ ap length (between_same _ _ _ _ (omega (arith, c.loop-i.invariant.below)))
