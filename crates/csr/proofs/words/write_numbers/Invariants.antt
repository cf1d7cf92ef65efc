use Rattle.std.proofs.Common.{take}
use Rattle.hilbert.specs.Search.{row}
use Rattle.moves.specs.Numbers.{number}
use Rattle.csr.specs.Words.{FirstWords}
use Rattle.csr.proofs.words.write_numbers.Given as goal

abbrev pub invariant-loop-i : goal.invariant-loop-i
invariant-loop-i l = FirstWords (λ k. number l.digits.lambda l.digits.lambda l.digits.free.now l.digits.n (row l.s.edges l.list k)) l.i (take l.s.states l.fn.words) l.word-items
