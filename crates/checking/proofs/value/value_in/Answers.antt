use Rattle.std.proofs.Common.{sym, ◌∙◌}
use Rattle.checking.proofs.Values.{word_read, plus_none, no_text_none}
use Rattle.checking.proofs.value.value_in.Goals as goal

pub returns-then-starts_with : goal.returns-then-starts_with
returns-then-starts_with c = plus_none c.args.word.now (sym c.starts_with.ensures.value ∙ c.if-starts_with.true)

pub returns-in-Ok : goal.returns-in-Ok
returns-in-Ok c =
    let read = rw c.in-Ok.ensures.cases.0 at c.parse.ensures.value.0 in
    c.ok.ensures.value ∙ word_read c.parse.result c.args.word.now (sym c.starts_with.ensures.value ∙ c.if-starts_with.false) read

pub returns-in-Err : goal.returns-in-Err
returns-in-Err c = no_text_none c.args.word.now c.in-Err.ensures.cases.0
