use Rattle.walker.proofs.Narrowing.{difference_fits, difference_casts, excess_some, excess_none}
use Rattle.walker.proofs.blocks.excess.Goals as goal

pub overflow_sub-result : goal.overflow_sub-result
overflow_sub-result c = difference_fits c.args.a c.args.b c.requires.0 c.requires.1

pub overflow_cast-result : goal.overflow_cast-result
overflow_cast-result c = difference_casts c.args.a c.args.b c.requires.0 c.requires.1 c.if-b-a.true

pub returns-then-b-a : goal.returns-then-b-a
returns-then-b-a c = excess_some c.args.a c.args.b c.requires.0 c.requires.1 c.if-b-a.true

pub returns-else-b-a : goal.returns-else-b-a
returns-else-b-a c = excess_none c.args.a c.args.b c.requires.0 c.requires.1 c.if-b-a.false
