use Rattle.basis.proofs.Statuses.{digit_is}
use Rattle.basis.proofs.status_digit.Goals as goal

pub returns : goal.returns
returns c = digit_is c.args.status
