use Rattle.plaquettes.proofs.Listed.{states_listed}
use Rattle.plaquettes.proofs.target.list_states.Goals as goal

pub returns : goal.returns
returns c = λ complex L h. states_listed complex L _ h _ _ _ c.write.ensures
