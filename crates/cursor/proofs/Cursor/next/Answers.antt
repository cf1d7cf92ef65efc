use Rattle.std.proofs.Common.{arith, ◌∙◌}
use Rattle.cursor.proofs.Cursors.{last_row}
use Rattle.cursor.proofs.Numbers.{next_here}
use Rattle.cursor.proofs.Cursor.next.Goals as goal

pub returns-then-self : goal.returns-then-self
returns-then-self c = next_here _ _ _ _ _ c.args.self c.requires.0 c.requires.1 c.if-self.true

pub returns : goal.returns
returns c =
    let low = c.requires.0.some c.requires.1 in
    let next = c.next_block.ensures in
    record {
      standing = next.standing;
      states = next.states ∙ last_row c.args.config.now _ c.args.self.d c.args.self.to low (omega arith) _;
      numbered = omega (arith, next.numbered);
      at = next.at;
    }
