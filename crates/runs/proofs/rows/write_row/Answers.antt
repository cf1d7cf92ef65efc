use Rattle.std.proofs.Common.{◌≡◌, ℕ, ℤ, pos, List, length, take, sym, append_assoc, arith}
use Rattle.std.proofs.Math.Seq.{drop-drop}
use borrow.Rule.Slice.PartMut.{put_mid}
use Rattle.mathematics.specs.Writing.{put}
use Rattle.cycles.proofs.Adding.{added_length}
use Rattle.runs.proofs.rows.write_row.Goals as goal

-- what is written over a part stands at its place
placed : (d s : List ℤ) (at k : ℕ) → k ≡ length s → put_mid at k d s ≡ put d at s
unfolding put
placed d s at k e = rw (drop-drop k at d, e) (sym (append_assoc (take at d) s _))

pub returns : goal.returns
returns c = rw c.fill_row.ensures (placed _ _ _ _ (omega (arith, added_length c.args.config.now (pos c.args.times) c.args.cycle.now)))
