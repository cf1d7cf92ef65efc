use Rattle.basis.proofs.Ends.{ends}
use Rattle.basis.proofs.answer_check.Goals as goal

pub returns : goal.returns
returns g c =
    let checked = c.write_check-checked.ensures in
    ends c.put_all-written.result _ _ _ _ _ _ c.finish.ensures checked.refusal (rw checked.bytes at c.put_all-written.ensures)
