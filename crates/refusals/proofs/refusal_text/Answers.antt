use Rattle.std.proofs.Common.{ℕ, sym, ap, ap₂, refl, arith, drop, length, length-take-le, ◌++◌, ◌∙◌, List, lt-ltb, le-ltb}
use mathlib.Core.Bool.{not, false≢true}
use borrow.Author.Tests.{eqb-true, eq-eqb}
use Rattle.mathematics.proofs.Calls.{none, here, past, refuses, ends}
use Rattle.mathematics.proofs.Front.{front_end}
use Rattle.refusals.specs.Sentences.{text_call}
use Rattle.refusals.proofs.Table.{each_sentence}
use Rattle.refusals.proofs.Telling.{some_told, none_told}
use Rattle.refusals.proofs.refusal_text.Goals as goal

pub returns-then-is_empty : goal.returns-then-is_empty
unfolding text_call
returns-then-is_empty c =
    let bytes = c.as_bytes-sentence.ensures.value ∙ c.sentence.ensures in
    let empty = eqb-true _ _ (sym c.is_empty.ensures ∙ c.if-is_empty.true) in
    refuses (text_call _ _) (here (none_told _ (rw (← bytes) empty))) refl

pub returns-then-room-sentence : goal.returns-then-room-sentence
unfolding text_call
returns-then-room-sentence c =
    let bytes = c.as_bytes-sentence.ensures.value ∙ c.sentence.ensures in
    let some = some_told c.args.number (rw (← bytes) (λ z. false≢true (sym c.if-is_empty.false ∙ c.is_empty.ensures ∙ eq-eqb _ _ z))) in
    refuses (text_call _ _) (past (ap not some) (here (rw (← bytes) (lt-ltb _ _ c.if-room-sentence.true)))) refl

pub returns : goal.returns
unfolding text_call
returns c =
    let bytes = c.as_bytes-sentence.ensures.value ∙ c.sentence.ensures in
    let some = some_told c.args.number (rw (← bytes) (λ z. false≢true (sym c.if-is_empty.false ∙ c.is_empty.ensures ∙ eq-eqb _ _ z))) in
    let same = sym (length-take-le _ c.args.text.now (omega (arith, c.if-room-sentence.false))) in
    let written = front_end _ _ _ c.loop-i.i 0 same c.loop-i.invariant (omega arith) in
    ends (text_call _ _) (past (ap not some) (past (rw (← bytes) (le-ltb _ _ c.if-room-sentence.false)) none))
    (ap length bytes)
    (ap₂ (λ (a b : List ℕ). a ++ drop (length b) c.args.text.now) (written ∙ bytes) bytes)
    (each_sentence _ some)
