use Rattle.std.proofs.Common.{refl}
use Rattle.pages.proofs.Turning.{turned}
use Rattle.pages.proofs.Whole.{placed}
use Rattle.pages.proofs.fill_more.Goals as goal

pub write_lines-lines-requires : goal.write_lines-lines-requires
write_lines-lines-requires c = (c.requires.0, c.requires.1.standing, c.requires.1.some)

pub returns : goal.returns
returns c text place at =
    let filled = turned c.args.page c.requires.1 _ c.write_lines-lines.new.config _ c.write_lines-lines.result c.write_lines-lines.auto.config refl c.write_lines-lines.ensures c.while_left.result c.while_left.ensures in
    placed text _ place _ at.inside (rw at.rest at filled)
