use Rattle.std.proofs.Common.{◌∙◌, arith}
use Rattle.sheet.proofs.Reading.{read_ready}
use Rattle.pages.proofs.Answers.{accepted_number, accepted_told, refused_kind, refused_told}
use Rattle.pages.proofs.Whole.{placed}
use Rattle.pages.proofs.fill_begin.Goals as goal

pub fill_first-requires : goal.fill_first-requires
fill_first-requires c =
    let ready = read_ready _ _ c.in-Ok.ensures in
    (c.requires, ready.0, ready.1)

pub returns-in-Ok : goal.returns-in-Ok
returns-in-Ok c =
    record {
      piece = placed _ _ 0 _ (omega arith) (rw (← (accepted_told _ _ c.in-Ok.ensures)) c.fill_first.ensures.fills);
      refusal = c.fill_first.ensures.refusal ∙ accepted_number _ _ c.in-Ok.ensures;
    }

pub returns-in-Err : goal.returns-in-Err
returns-in-Err c =
    record {
      piece = placed _ _ 0 _ (omega arith) (rw (← (refused_told _ _ c.in-Err.ensures)) c.fill_refused.ensures.fills);
      refusal = c.fill_refused.ensures.refusal ∙ refused_kind _ _ c.in-Err.ensures;
    }
