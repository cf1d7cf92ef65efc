use Rattle.std.proofs.Common.{◌∙◌}
use Rattle.basis.proofs.Ends.{ends, on_ok_of}
use Rattle.basis.proofs.answer.Goals as goal

pub returns : goal.returns
returns g c =
    let begun = c.fill_begin-begun.ensures in
    ends c.print-written.result _ _ _ _ _ _ c.finish.ensures (c.number_of.ensures ∙ begun.refusal) (on_ok_of _ _ c.print-written.result (λ all. all _ begun.piece) c.print-written.ensures)
