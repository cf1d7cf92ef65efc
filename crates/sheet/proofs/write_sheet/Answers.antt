use Rattle.std.proofs.Common.{rules}
use Rattle.answers.proofs.Numbers.{number_positive}
use Rattle.answers.proofs.Passing.{answer_passed}
use Rattle.sheet.proofs.Sheets.{no_room, sheet_written, unwritten}
use Rattle.sheet.proofs.write_sheet.Goals as goal

pub returns-in_err-accept_truncated : goal.returns-in_err-accept_truncated
returns-in_err-accept_truncated c = rw (answer_passed _ _ c.from_residual.ensures.1) (unwritten _ _ c.in_err-accept_truncated.ensures (number_positive _))

pub returns-then-out-size : goal.returns-then-out-size
returns-then-out-size c = no_room _ (search rules) (search rules) c.in_ok-accept_truncated.ensures _ c.if-out-size.true

pub returns : goal.returns
returns c = sheet_written _ (search rules) (search rules) c.in_ok-accept_truncated.ensures _ c.if-out-size.false c.write_bytes.ensures
