use Rattle.std.proofs.Common.{◌∙◌, ◌<◌, refl, arith, length, get_or, take, eqb}
use lib.Seq.{take_all}
use Rattle.mathematics.specs.Lists.{noted_all}
use Rattle.mathematics.proofs.Lists.{noted_all_last}
use Rattle.mathematics.proofs.Front.{take_next}
use Rattle.complex.proofs.numbering.Numbering.note_all.Goals as goal

pub loop-key-init : goal.loop-key-init
unfolding noted_all
loop-key-init c = record { within = refl; noted = λ s n. n }

pub loop-key-preserved : goal.loop-key-preserved
loop-key-preserved c =
    let new = c.args.new.now in
    let i = c.loop-key.key-index in
    let here : i < length new = omega arith in
    record {
      within = c.note.ensures.within ∙ c.loop-key.invariant.within;
      noted = λ s n. rw (take_next new i 0 here, noted_all_last eqb s (take i new) (get_or new i 0)) (c.note.ensures.noted _ (c.loop-key.invariant.noted s n));
    }

pub returns-clause-noted : goal.returns-clause-noted
returns-clause-noted c = λ s n. rw (take_all c.loop-key.key-index c.args.new.now (omega arith)) at (c.loop-key.invariant.noted s n)
