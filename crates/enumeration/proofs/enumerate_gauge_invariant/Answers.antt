use Rattle.std.proofs.Common.{sym, ◌∙◌, ltb-false, ne_eqb, refl}
use Rattle.mathematics.proofs.Calls.{none, here, past, refuses, ends}
use Rattle.answers.proofs.Numbers.{number_positive}
use Rattle.answers.proofs.Passing.{answer_passed}
use Rattle.enumeration.specs.Enumeration.{enumerated_call}
use Rattle.enumeration.proofs.Bases.{basis_refused, basis_passed, basis_short, basis_lists, basis_is_known}
use Rattle.enumeration.proofs.Demanded.{demanded}
use Rattle.enumeration.proofs.enumerate_gauge_invariant.Goals as goal

pub returns-in_err-basis : goal.returns-in_err-basis
unfolding enumerated_call
returns-in_err-basis c =
    rw (answer_passed _ _ c.from_residual.ensures.1)
    (let p = demanded _ _ _ _ _ (refuses _ (basis_refused c.in_err-basis.ensures _) (ne_eqb _ 0 (number_positive _))) in record { answered = p.0; listing_demand = p.1 })

pub returns-then-is_too_short : goal.returns-then-is_too_short
unfolding enumerated_call
returns-then-is_too_short c =
    let short = basis_short _ _ _ c.in_ok-basis.ensures _ ∙ sym c.is_too_short.ensures ∙ c.if-is_too_short.true in
    let p = demanded _ _ _ _ _ (refuses _ (basis_passed c.in_ok-basis.ensures (here short)) refl) in
    record { answered = p.0; listing_demand = p.1 }

pub write-requires : goal.write-requires
write-requires c = ltb-false _ _ (sym c.is_too_short.ensures ∙ c.if-is_too_short.false)

pub returns : goal.returns
unfolding enumerated_call
returns c =
    let room = basis_short _ _ _ c.in_ok-basis.ensures _ ∙ sym c.is_too_short.ensures ∙ c.if-is_too_short.false in
    let made = basis_lists _ _ _ c.in_ok-basis.ensures _ _ _ c.write.ensures in
    let p = demanded _ _ _ _ _ (ends _ (basis_passed c.in_ok-basis.ensures (past room none)) made.0 made.1 (basis_is_known _ _ _ c.in_ok-basis.ensures)) in
    record { answered = p.0; listing_demand = p.1 }
