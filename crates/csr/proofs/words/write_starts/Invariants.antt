use Rattle.std.proofs.Common.{◌≡◌, take}
use Rattle.csr.specs.Words.{upper, begins, FirstWords}
use Rattle.csr.proofs.words.write_starts.Given as goal

abbrev pub invariant-loop-word : goal.invariant-loop-word
invariant-loop-word l = record {
  at : l.at ≡ begins (upper l.fn.words) l.word-index;
  words : FirstWords (begins (upper l.fn.words)) l.word-index (take l.n l.fn.words) l.word-items;
}
