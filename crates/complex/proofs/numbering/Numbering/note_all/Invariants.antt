use Rattle.std.proofs.Common.{◌≡◌, ℕ, List, eqb, take}
use Rattle.mathematics.specs.Lists.{noted_all}
use Rattle.complex.specs.Numbering.{Numbered}
use Rattle.complex.proofs.numbering.Numbering.note_all.Given as goal

abbrev pub invariant-loop-key : goal.invariant-loop-key
invariant-loop-key l =
    record {
      within : l.self.limit ≡ l.fn.self.limit;
      noted : (s : List ℕ) → Numbered l.fn.self.limit l.fn.self.table l.fn.self.keys l.fn.self.count s
          → Numbered l.self.limit l.self.table l.self.keys l.self.count (noted_all eqb s (take l.key-index l.new));
    }
