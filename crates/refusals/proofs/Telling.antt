-- A sentence has bytes exactly where the table has its number.
use Prim.Native.Nat.{ℕ}
use Prim.Native.String.{String}
use mathlib.Core.List.{List, [], ◌∷◌}
use mathlib.Core.Path.{◌≡◌, refl, sym, ap}
use mathlib.Core.Bool.{Bool, true, false, not, ◌||◌, cond, false≢true}
use native.Mathlib.Omega.{arith}
use lib.Dec.{eqb}
use lib.ListN.{length}
use Rattle.std.proofs.Common.{codes}
use Rattle.mathematics.specs.Lists.{listed}
use Rattle.answers.specs.Sentences.{refusals, numbers, sentence_in, sentence, in_table}
use Rattle.refusals.proofs.Table.{each_sentence}

none_in : (table : List (ℕ × String)) (n : ℕ) → listed eqb n (numbers table) ≡ false → sentence_in table n ≡ []
unfolding listed numbers sentence_in
none_in [] n h = refl
none_in (r ∷ table) n h = go (eqb n r.0) h (none_in table n)
  where
    go : (b : Bool) → (b || listed eqb n (numbers table)) ≡ false → (listed eqb n (numbers table) ≡ false → sentence_in table n ≡ []) → cond b (codes r.1) (sentence_in table n) ≡ []
    go true h rest = absurd (false≢true (sym h))
    go false h rest = rest h

-- no bytes: no reason has the number
pub none_told : (n : ℕ) → length (sentence n) ≡ 0 → not (in_table n) ≡ true
none_told n h = go (in_table n) refl
  where
    go : (b : Bool) → in_table n ≡ b → not b ≡ true
    go true is = let some = (each_sentence n is).some in absurd (omega arith)
    go false is = refl

pub some_told : (n : ℕ) → (length (sentence n) ≡ 0 → ⊥) → in_table n ≡ true
unfolding in_table sentence
some_told n h = go (in_table n) refl
  where
    go : (b : Bool) → in_table n ≡ b → b ≡ true
    go true is = refl
    go false is = absurd (h (ap length (none_in refusals n is)))
