use Rattle.std.proofs.Common.{arith}
use Rattle.complex.proofs.Numberings.{note_over, note_old, note_past, note_new}
use Rattle.complex.proofs.numbering.Numbering.note.Goals as goal
use Rattle.complex.proofs.numbering.Numbering.note.Goals.{then-self-via-then-self, then-self-via-else-self+then-self-place-ne0, then-self-2, else-self-2}

pub returns-then-self-clause-noted : goal.returns-then-self-clause-noted
returns-then-self-clause-noted c =
    elim c.then-self.branch [
      | then-self-via-then-self w ↦ λ l n. note_over _ _ _ _ _ c.requires l n w.if-self.true
      | then-self-via-else-self+then-self-place-ne0 w ↦ λ l n. note_old _ _ _ _ _ c.requires l n w.if-self.false (rw c.from-place.ensures at w.if-self-place-ne0.true)
    ]

pub returns-clause-noted : goal.returns-clause-noted
returns-clause-noted c =
    let unset = rw c.from-place.ensures at c.if-self-place-ne0.false in
    elim c.if-self-2.branch [
      | then-self-2 w ↦ λ l n. rw (w.self-is, c.from-place.ensures) (note_new _ _ _ _ _ c.requires l n w.if-self-2.true c.args.self.now.room unset)
      | else-self-2 w ↦ λ l n. rw w.self-is (note_past _ _ _ _ _ c.requires l n (omega arith) unset)
    ]
