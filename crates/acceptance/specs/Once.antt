-- Whether an entry is listed twice, as the code finds it: what a table of numbers and a set of bits hold as long as none is.
use Rattle.std.specs.Prelude.{ℕ, ◌/◌, ◌%◌, ◌<◌, List, Bool, true, cond, ◌≡◌, get_or, length, eqb}
use Rattle.mathematics.specs.Lists.{same, listed, distinct}
use Rattle.mathematics.specs.Bits.{bit}
use Rattle.complex.specs.Complex.{Simplex}
use Rattle.complex.specs.Numbering.{EdgeTable}

-- r tells whether no edge is listed twice, and then the table is their index
pub record EdgesIndexed (table : List ℕ) (r : Bool) (es : List Simplex) : Type 0 where
  pub once : r ≡ distinct same es
  pub index : r ≡ true → EdgeTable table es

-- the bit of key k in a set of keys, 64 to an entry
abbrev pub mark_of : List ℕ → ℕ → ℕ
mark_of seen k = bit (get_or seen (k / 64) 0) (k % 64)

-- r tells whether no key is listed twice, and then the set has a bit for each key that is listed
pub record Marked (seen : List ℕ) (r : Bool) (keys : List ℕ) : Type 0 where
  pub long : length seen ≡ 64
  pub once : r ≡ distinct eqb keys
  pub marks : r ≡ true → (k : ℕ) → k < 4096 → mark_of seen k ≡ cond (listed eqb k keys) 1 0
