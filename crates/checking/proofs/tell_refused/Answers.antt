use Rattle.std.proofs.Common.{◌≡◌, ◌+◌, ◌≤◌, ◌∙◌, arith, length}
use Rattle.answers.specs.Refusal.{refusal_number}
use Rattle.lines.specs.Lines.{refused_line}
use Rattle.lines.proofs.Lengths.{refused_line_long}
use Rattle.checking.proofs.Lines.{line_told}
use Rattle.checking.proofs.tell_refused.Goals as goal

pub write_refused_line-len-requires : goal.write_refused_line-len-requires
write_refused_line-len-requires c = omega (arith, refused_line_long c.from.result c.from.type_inv, c.requires)

pub returns : goal.returns
returns c =
    let is : c.from.result ≡ refusal_number c.args.refusal = c.from.ensures ∙ c.number-number.ensures in
    let short : 0 + length (refused_line (refusal_number c.args.refusal)) ≤ length c.args.out.now = rw (← is) (omega (arith, refused_line_long c.from.result c.from.type_inv, c.requires)) in
    line_told _ _ _ _ _ _ short (rw is at c.write_refused_line-len.ensures) c.number-number.ensures
