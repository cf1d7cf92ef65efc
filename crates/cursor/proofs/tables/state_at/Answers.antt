use Rattle.std.proofs.Common.{◌∙◌}
use lib.Seq.{take_at}
use Rattle.walker.specs.Tables.{states_of, begin_of}
use Rattle.cursor.proofs.Cursors.{anew_long}
use Rattle.cursor.proofs.tables.state_at.Goals as goal

pub find_state-requires : goal.find_state-requires
unfolding states_of begin_of
find_state-requires c = let fit = c.requires.0 in (fit.walkable, rw fit.sized c.requires.1)

pub returns : goal.returns
unfolding states_of begin_of
returns c =
    let fit = c.requires.0 in
    let long = c.find_state.auto.config ∙ fit.sized in
    (anew_long _ c.args.w.now.first c.args.w.now.n_edges long fit.edges fit.space, take_at c.find_state.new.config _ _ long ∙ (rw fit.sized at c.find_state.ensures))
