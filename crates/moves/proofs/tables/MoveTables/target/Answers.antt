use Rattle.std.proofs.Common.{rules, ◌∙◌}
use Rattle.moves.specs.Moves.{goes, change_in}
use Rattle.moves.proofs.Collecting.{kept_or_none}
use Rattle.moves.proofs.tables.MoveTables.target.Goals as goal

pub returns-clause-is : goal.returns-clause-is
unfolding goes change_in
returns-clause-is c = kept_or_none c.then.result _ _ (c.then.ensures.variant ∙ c.goes.ensures) c.then.ensures.some (λ y h. search rules)
