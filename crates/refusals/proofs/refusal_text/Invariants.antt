use Rattle.std.proofs.Common.{◌≡◌, ◌++◌, take, drop, length}
use Rattle.refusals.proofs.refusal_text.Given as goal

abbrev pub invariant-loop-i : goal.invariant-loop-i
invariant-loop-i l = l.place-items ≡ take l.i l.sentence ++ drop l.i (take (length l.sentence) l.fn.text)
