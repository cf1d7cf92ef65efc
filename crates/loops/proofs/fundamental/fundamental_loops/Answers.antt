use Rattle.std.proofs.Common.{sym, ◌∙◌, refl}
use Rattle.mathematics.proofs.Calls.{none, here, past, refuses, ends}
use Rattle.answers.proofs.Numbers.{number_positive}
use Rattle.answers.proofs.Passing.{call_passed}
use Rattle.complex.proofs.Accepting as accepting
use Rattle.complex.proofs.Refusing.{record_refuses, past_record}
use Rattle.gauss_law.proofs.Spanned.{accepted_searchable, searched_spanned}
use Rattle.loops.specs.Loops.{loops_call}
use Rattle.loops.proofs.AcceptedLoops.{loops_fundamental}
use Rattle.loops.proofs.LoopsTold.{long_enough, room_told, lists_are}
use Rattle.loops.proofs.fundamental.fundamental_loops.Goals as goal

pub returns-in_err-accept : goal.returns-in_err-accept
unfolding loops_call
returns-in_err-accept c = call_passed _ _ c.from_residual.ensures.1 (loops_call _ _ _ _) (record_refuses _ c.in_err-accept.ensures (number_positive _) _)

pub search-tree-requires : goal.search-tree-requires
search-tree-requires c = accepted_searchable _ (sym c.in_ok-accept.ensures)

pub free_edges-free-requires : goal.free_edges-free-requires
free_edges-free-requires c = searched_spanned _ _ (sym c.in_ok-accept.ensures) c.search-tree.ensures

pub new-rooted-requires : goal.new-rooted-requires
new-rooted-requires c = searched_spanned _ _ (sym c.in_ok-accept.ensures) c.search-tree.ensures

pub total_steps-total-requires : goal.total_steps-total-requires
total_steps-total-requires c = rw c.new-rooted.ensures c.free_edges-free.ensures

pub returns-then-starts-count : goal.returns-then-starts-count
unfolding loops_call
returns-then-starts-count c =
    let told = room_told _ _ c.free_edges-free.ensures _ (rw c.new-rooted.ensures at c.total_steps-total.ensures) _ _ _ in
    refuses (loops_call _ _ _ _) (past_record _ (sym c.in_ok-accept.ensures) (here (told ∙ rw c.len-count.ensures at c.if-starts-count.true))) refl

pub write_loops-requires : goal.write_loops-requires
write_loops-requires c =
    let of = c.free_edges-free.ensures in
    let total = rw c.new-rooted.ensures at c.total_steps-total.ensures in
    let room = long_enough _ _ of _ total c.args.starts.now c.args.edges.now c.args.directions.now (rw c.len-count.ensures at c.if-starts-count.false) in
    rw c.new-rooted.ensures (of, room.0, room.1)

pub returns : goal.returns
unfolding loops_call
returns c =
    let of = c.free_edges-free.ensures in
    let whole = sym c.in_ok-accept.ensures in
    let told = room_told _ _ of _ (rw c.new-rooted.ensures at c.total_steps-total.ensures) _ _ _ in
    ends (loops_call _ _ _ _) (past_record _ whole (past (told ∙ rw c.len-count.ensures at c.if-starts-count.false) none)) (c.len-count.ensures ∙ of.count) (lists_are (rw c.new-rooted.ensures at c.write_loops.ensures))
    (record { few = rw (← of.count) of.few; each = loops_fundamental _ ((accepting.accepted _).0 whole) })
