use Rattle.sheet.proofs.Reading.{read_is, read_ready, read_goes_on, refused_none, refused_other, refused_stops}
use Rattle.checking.specs.Text.{check_refusal, check_text}
use Rattle.checking.proofs.Lines.{refused_told}
use Rattle.checking.proofs.write_check.Goals as goal

pub check_values-requires : goal.check_values-requires
check_values-requires c = let ready = read_ready _ _ c.in-Ok.ensures in (c.requires, ready.0, ready.1)

pub returns-in-Ok : goal.returns-in-Ok
unfolding check_refusal check_text
returns-in-Ok c =
    rw (read_goes_on _ _ c.in-Ok.ensures _, ← (read_is _ _ c.in-Ok.ensures)) c.check_values.ensures

pub returns-in-Err : goal.returns-in-Err
unfolding check_refusal check_text
returns-in-Err c =
    let some = refused_none _ _ c.in-Err.ensures in
    let other = refused_other _ _ c.in-Err.ensures in
    rw (refused_stops _ _ c.in-Err.ensures _, refused_told _ _ _ _ some other) c.tell_refused.ensures
