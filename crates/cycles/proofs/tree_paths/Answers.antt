use Rattle.std.proofs.Common.{length, take, rules}
use Rattle.std.proofs.lemmas.Slice.Zip.{zip_turn, zip_end}
use lib.ListN.{length-append}
use Rattle.gauss_law.proofs.Spanned.{spanned_found}
use Rattle.cycles.proofs.PathTables.{no_paths, extend_ready, extend_more, walked_queue, step_read, steps_all}
use Rattle.cycles.proofs.tree_paths.Goals as goal

pub loop-e-init : goal.loop-e-init
loop-e-init c = no_paths c.args.c c.args.tree c.requires

pub extend-requires : goal.extend-requires
extend-requires c =
    let turn = zip_turn (take c.args.tree.found c.args.tree.tree_edges) (walked_queue c.args.tree) c.loop-e.yielded c.into_iter-e-iterator.result c.loop-e.e-iterator c.next.new.self _ (search rules) (search rules) c.loop-e.yielded_by _ c.in-Some.is c.next.ensures.steps in
    let step = step_read c.args.c c.args.tree c.requires (length c.loop-e.yielded) turn.0 in
    let r = extend_ready c.args.c c.args.tree c.requires (length c.loop-e.yielded) step.0 in
    rw (c.from.ensures, c.from-in-loop-e.ensures, turn.2 0, turn.3 0, step.1, step.2) (r.0, r.1, r.2, r.3, r.4, r.5, c.loop-e.invariant.long)

pub loop-e-preserved : goal.loop-e-preserved
loop-e-preserved c =
    let turn = zip_turn (take c.args.tree.found c.args.tree.tree_edges) (walked_queue c.args.tree) c.loop-e.yielded c.into_iter-e-iterator.result c.loop-e.e-iterator c.next.new.self _ (search rules) (search rules) c.loop-e.yielded_by _ c.in-Some.is c.next.ensures.steps in
    let step = step_read c.args.c c.args.tree c.requires (length c.loop-e.yielded) turn.0 in
    rw (length-append c.loop-e.yielded, c.extend.ensures, c.from.ensures, c.from-in-loop-e.ensures, turn.2 0, turn.3 0, step.1, step.2)
    (extend_more c.args.c c.args.tree c.requires (length c.loop-e.yielded) step.0 c.loop-e.paths c.loop-e.invariant)

pub returns : goal.returns
returns c =
    let done = zip_end (take c.args.tree.found c.args.tree.tree_edges) (walked_queue c.args.tree) c.loop-e.yielded c.into_iter-e-iterator.result c.loop-e.e-iterator c.next.new.self _ (search rules) (search rules) c.loop-e.yielded_by c.in-None.is c.next.ensures.steps in
    rw (done, steps_all c.args.c c.args.tree c.requires, spanned_found c.args.c c.args.tree c.requires) at c.loop-e.invariant
