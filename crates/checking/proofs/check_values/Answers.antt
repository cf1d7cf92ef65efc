use Rattle.std.proofs.Common.{◌≤◌, ◌+◌, length, arith, sym, refl, ◌∙◌}
use Rattle.complex.specs.Complex.{complex_of}
use Rattle.gauss_law.proofs.Spanned.{edges_long}
use Rattle.lines.specs.Lines.{listed_line}
use Rattle.lines.proofs.Lengths.{listed_line_long}
use Rattle.checking.proofs.Lines.{line_told, refused_told, wrong_length, found_number, listed_number, found_told, listed_told}
use Rattle.checking.proofs.check_values.Goals as goal

pub returns-then-values-s : goal.returns-then-values-s
returns-then-values-s c =
    let number = wrong_length (complex_of c.args.s.complex) c.args.s.lambda c.args.values.now (λ z. c.if-values-s.true (z ∙ edges_long c.args.s.complex)) in
    rw (number, refused_told (complex_of c.args.s.complex) c.args.s.lambda c.args.values.now 12 (λ z. omega arith) (λ z. omega arith)) c.tell_refused.ensures

pub write_listed_line-requires : goal.write_listed_line-requires
write_listed_line-requires c = omega (arith, listed_line_long, c.requires.0)

pub returns-in-Some : goal.returns-in-Some
returns-in-Some c =
    let long = c.if-values-s.false ∙ sym (edges_long c.args.s.complex) in
    let why = sym c.why_unlisted.ensures ∙ c.in-Some.is in
    let number = found_number (complex_of c.args.s.complex) c.args.s.lambda c.args.values.now long c.in-Some.finding why in
    rw (number, found_told (complex_of c.args.s.complex) c.args.s.lambda c.args.values.now c.in-Some.finding why)
    (record { bytes = c.write_finding.ensures.bytes; fits = c.write_finding.ensures.fits; refusal = c.number.ensures })

pub returns-in-None : goal.returns-in-None
returns-in-None c =
    let long = c.if-values-s.false ∙ sym (edges_long c.args.s.complex) in
    let why = sym c.why_unlisted.ensures ∙ c.in-None.is in
    let number = listed_number (complex_of c.args.s.complex) c.args.s.lambda c.args.values.now long why in
    let room : 0 + length listed_line ≤ length c.args.out.now = omega (arith, listed_line_long, c.requires.0) in
    rw (number, listed_told (complex_of c.args.s.complex) c.args.s.lambda c.args.values.now) (line_told 0 _ _ _ _ _ room c.write_listed_line.ensures refl)
