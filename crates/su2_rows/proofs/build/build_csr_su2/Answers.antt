use Rattle.std.proofs.Common.{sym, refl}
use Rattle.mathematics.proofs.Calls.{none, here, past, refuses, ends}
use Rattle.answers.proofs.Numbers.{number_positive}
use Rattle.answers.proofs.Passing.{call_passed}
use Rattle.triangles.proofs.SidesFound.{triangles_long}
use Rattle.matrices.specs.Weights.{weight, is_given, given_list}
use Rattle.matrices.proofs.Weighing.{weights_fit, weights_refuse, past_weights}
use Rattle.rows.proofs.SortedRows.{long_enough, coupling_fits, lists_are}
use Rattle.su2_masks.proofs.Placing.{masks_are}
use Rattle.su2_masks.proofs.LoopsTold.{loops_refuse, past_loops, masks_known, states_counted, masks_front}
use Rattle.su2_rows.specs.Rows.{su2_rows_call}
use Rattle.su2_rows.proofs.Once.{no_column_twice}
use Rattle.su2_rows.proofs.RowLengths.{entries_number}
use Rattle.su2_rows.proofs.ListedRows.{states_few, entries_made}
use Rattle.su2_rows.proofs.build.build_csr_su2.Goals as goal

pub returns-in_err-f : goal.returns-in_err-f
unfolding su2_rows_call
returns-in_err-f c = call_passed _ _ c.from_residual.ensures.1 (su2_rows_call _ _ _ _ _ _ _ _) (loops_refuse _ _ c.in_err-f.ensures.number)

pub returns-in_err-accept_weights : goal.returns-in_err-accept_weights
unfolding su2_rows_call
returns-in_err-accept_weights c =
    call_passed _ _ c.from_residual-in_err-accept_weights.ensures.1 (su2_rows_call _ _ _ _ _ _ _ _)
    (past_loops _ c.in_ok-f.ensures.number (weights_refuse _ _ _ _ (rw (triangles_long c.args.c, ← c.is_su2.ensures) c.in_err-accept_weights.ensures) (number_positive _) _))

pub entries_number-entries-requires : goal.entries_number-entries-requires
entries_number-entries-requires c =
    let of = c.in_ok-f.ensures.loops in
    let few = states_few of in
    (rw (← (triangles_long c.args.c)) of.of.accepted.few_triangles, rw (states_counted _ _ of) few.0, rw (states_counted _ _ of) few.1)

pub returns-then-states-n : goal.returns-then-states-n
unfolding su2_rows_call
returns-then-states-n c =
    let of = c.in_ok-f.ensures.loops in
    let right = sym (rw (triangles_long c.args.c, ← c.is_su2.ensures) c.in_ok-accept_weights.ensures) in
    let entries = entries_made _ of c.args.p (coupling_fits _ _ _ _ right) (weight (is_given c.args.weights) (given_list c.args.weights)) _ _ (states_counted _ _ of) c.entries_number-entries.ensures in
    refuses (su2_rows_call _ _ _ _ _ _ _ _) (past_loops _ c.in_ok-f.ensures.number (past_weights _ _ _ _ right (here (rw (entries, states_counted _ _ of) at c.if-states-n.true)))) refl

pub write_lists-requires : goal.write_lists-requires
write_lists-requires c =
    let of = c.in_ok-f.ensures.loops in
    let right = sym (rw (triangles_long c.args.c, ← c.is_su2.ensures) c.in_ok-accept_weights.ensures) in
    let room = long_enough _ _ _ _ _ _ c.if-states-n.false in (
      record {
        loops = of;
        states = states_counted _ _ of;
        right = coupling_fits _ _ _ _ right;
        starts_fit = room.1;
        columns_fit = rw (triangles_long c.args.c, ← c.entries_number-entries.ensures) room.2;
        values_fit = rw (triangles_long c.args.c, ← c.entries_number-entries.ensures) room.3;
      },
      weights_fit _ _ _ _ right,
      (_, rw (c.loops.ensures, masks_are _ _ of.of) at c.write_masks.ensures),
    )

pub returns : goal.returns
unfolding su2_rows_call
returns c =
    let of = c.in_ok-f.ensures.loops in
    let right = sym (rw (triangles_long c.args.c, ← c.is_su2.ensures) c.in_ok-accept_weights.ensures) in
    let coupling = coupling_fits _ _ _ _ right in
    let entries = entries_made _ of c.args.p coupling (weight (is_given c.args.weights) (given_list c.args.weights)) _ _ (states_counted _ _ of) c.entries_number-entries.ensures in
    ends (su2_rows_call _ _ _ _ _ _ _ _) (past_loops _ c.in_ok-f.ensures.number (past_weights _ _ _ _ right (past (rw (entries, states_counted _ _ of) at c.if-states-n.false) none)))
    entries
    (lists_are (masks_front _ _ of _ _ (rw c.loops.ensures at c.write_masks.ensures)) (states_counted _ _ of) c.write_lists.ensures)
    (record { few = (masks_known _ _ of).few; once = no_column_twice _ of.of.accepted; count = entries_number _ of.of.accepted _ coupling _ })
