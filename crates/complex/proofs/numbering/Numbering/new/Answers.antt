use Rattle.complex.proofs.Indexes.{none_numbered}
use Rattle.complex.proofs.numbering.Numbering.new.Goals as goal

pub returns-clause-none : goal.returns-clause-none
returns-clause-none c = none_numbered _
