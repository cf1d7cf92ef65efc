use Rattle.std.proofs.Common.{refl}
use Rattle.mathematics.proofs.Calls.{none, ends}
use Rattle.answers.proofs.Passing.{call_passed}
use Rattle.triangles.proofs.SidesFound.{triangles_long}
use Rattle.su2_rows.proofs.ListedRows.{states_few}
use Rattle.su2_masks.proofs.LoopsTold.{loops_refuse, past_loops, masks_known, states_counted}
use Rattle.su2_rows.proofs.RowLengths as lengths
use Rattle.su2_entries.specs.Entries.{entries_number, su2_entries_call}
use Rattle.su2_entries.proofs.su2_count_entries.Goals as goal

pub returns-in_err-f : goal.returns-in_err-f
unfolding su2_entries_call
returns-in_err-f c = call_passed _ _ c.from_residual.ensures.1 (su2_entries_call _) (loops_refuse _ _ c.in_err-f.ensures.number)

pub entries_number-requires : goal.entries_number-requires
entries_number-requires c =
    let of = c.in_ok-f.ensures.loops in
    let few = states_few of in
    (rw (← (triangles_long c.args.c)) of.of.accepted.few_triangles, rw (states_counted _ _ of) few.0, rw (states_counted _ _ of) few.1)

pub returns : goal.returns
unfolding su2_entries_call entries_number
returns c =
    let of = c.in_ok-f.ensures.loops in
    ends (su2_entries_call _) (past_loops _ c.in_ok-f.ensures.number none)
    (rw (triangles_long c.args.c, ← (states_counted _ _ of)) c.entries_number.ensures)
    refl
    (record {
      few_triangles = of.of.accepted.few_triangles;
      few = (masks_known _ _ of).few;
      every = λ p w h. lengths.entries_number _ of.of.accepted p h w;
    })
