use Rattle.answers.proofs.Numbers.{number_positive}
use Rattle.answers.proofs.Passing.{answer_passed}
use Rattle.making.proofs.Makings.{sizes_of, sizes_refuse, made_by}
use Rattle.making.proofs.make_sheet.Goals as goal

pub returns-in_err-judge_sizes : goal.returns-in_err-judge_sizes
returns-in_err-judge_sizes c = rw (answer_passed _ _ c.from_residual.ensures.1) (sizes_refuse _ _ _ _ _ c.in_err-judge_sizes.ensures (number_positive _))

pub sheet_of-requires : goal.sheet_of-requires
sheet_of-requires c = sizes_of _ _ _ _ c.in_ok-judge_sizes.ensures

pub returns : goal.returns
returns c = made_by _ _ _ _ c.in_ok-judge_sizes.ensures _ (rw (c.sheet_of.ensures.0, c.sheet_of.ensures.1) at c.write_sheet.ensures)
