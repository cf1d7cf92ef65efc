use Rattle.answers.proofs.Numbers.{numbered}
use Rattle.answers.proofs.refusal.Refusal.number.Goals as goal

pub returns : goal.returns
returns c = numbered c.args.self
