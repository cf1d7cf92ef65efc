use Rattle.std.proofs.Common.{◌∙◌}
use Rattle.cursor.proofs.Cursors.{anew_long}
use Rattle.pages.proofs.Turning.{page_lines, page_ready, first_ready, first_lines, first_long}
use Rattle.pages.proofs.first_page.Goals as goal

pub first-cursor-requires : goal.first-cursor-requires
first-cursor-requires c = first_ready _ _ _ c.requires

pub returns : goal.returns
returns c =
    let w = c.args.w in
    let new = c.first-cursor.new.config in
    let long = first_long _ _ _ c.requires new c.first-cursor.auto.config in (
      page_lines w c.args.lambda c.first-cursor.result new _ long ∙ first_lines _ _ _ c.requires new c.first-cursor.result c.first-cursor.ensures,
      λ some.
          page_ready w c.args.lambda c.first-cursor.result new _ long c.requires.edges (anew_long new w.first w.n_edges long c.requires.edges c.requires.space)
          c.first-cursor.ensures.standing some,
    )
