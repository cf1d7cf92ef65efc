use Rattle.std.proofs.Common.{rules, ◌∙◌}
use Rattle.sheet.proofs.Sheets.{copied}
use Rattle.sheet.proofs.write_bytes.Goals as goal

pub returns : goal.returns
returns c =
    copied _ (search rules) (search rules) c.requires.edges c.requires.triangles _ _ _ _ (c.copy_from_slice.ensures.after ∙ c.header.ensures) c.copy_from_slice-2.ensures.after c.copy_from_slice-3.ensures.after
