-- The table of the sentences: its numbers, and what each sentence is.
use Prim.Native.Nat.{ℕ, suc}
use Prim.Native.String.{String}
use mathlib.Core.List.{List, [], ◌∷◌, map}
use mathlib.Core.Path.{◌≡◌, refl}
use mathlib.Core.Bool.{Bool, true, false, ◌&&◌, ◌||◌, cond, false≢true}
use borrow.Author.Tests.{leb-true}
use lib.Dec.{eqb, leb}
use lib.ListN.{length, get_or}
use Rattle.mathematics.specs.Tests.{every_entry}
use Rattle.mathematics.specs.Lists.{listed}
use Rattle.mathematics.specs.Counting.{below}
use Rattle.mathematics.proofs.Tests.{and_parts, all_at}
use Rattle.std.proofs.Common.{codes}
use Rattle.answers.specs.Sentences.{refusals, numbers, sentence_in, sentence, in_table}
use Rattle.refusals.specs.Sentences.{PlainText}

-- the numbers are 1 to 17, in order, each once
pub numbers_in_order : numbers refusals ≡ map suc (below 17)
unfolding numbers refusals below
numbers_in_order = refl

-- the test of a sentence
printable : ℕ → Bool
printable b = leb 32 b && leb b 126

plain : List ℕ → Bool
plain s = leb 1 (length s) && (leb (length s) 200 && every_entry printable s)

plain_means : (s : List ℕ) → plain s ≡ true → PlainText s
unfolding plain printable
plain_means s h =
    let p = and_parts (leb 1 (length s)) (leb (length s) 200 && every_entry printable s) h in
    let q = and_parts (leb (length s) 200) (every_entry printable s) p.1 in
    record {
      some = leb-true 1 (length s) p.0;
      few = leb-true (length s) 200 q.0;
      plain = λ i il.
          let b = get_or s i 0 in
          let r = and_parts (leb 32 b) (leb b 126) (all_at printable 0 s q.1 i il) in
          (leb-true 32 b r.0, leb-true b 126 r.1);
    }

-- it holds of the sentence with each number of a table, where it holds of the table
all_plain : List (ℕ × String) → Bool
all_plain table = every_entry (λ (r : ℕ × String). plain (codes r.1)) table

plain_in : (table : List (ℕ × String)) → all_plain table ≡ true → (n : ℕ) → listed eqb n (numbers table) ≡ true → plain (sentence_in table n) ≡ true
unfolding all_plain every_entry listed numbers sentence_in
plain_in [] h n is = absurd (false≢true is)
plain_in (r ∷ table) h n is = go (eqb n r.0) is (plain_in table p.1 n)
  where
    p : (plain (codes r.1) ≡ true) × (all_plain table ≡ true)
    p = and_parts (plain (codes r.1)) (all_plain table) h

    go : (b : Bool) → (b || listed eqb n (numbers table)) ≡ true → (listed eqb n (numbers table) ≡ true → plain (sentence_in table n) ≡ true) → plain (cond b (codes r.1) (sentence_in table n)) ≡ true
    go true is rest = p.0
    go false is rest = rest is

-- no sentence of the table is empty or longer than 200 bytes, and each is plain ASCII without a line feed
pub each_sentence : (n : ℕ) → in_table n ≡ true → PlainText (sentence n)
unfolding in_table sentence refusals all_plain plain printable every_entry
each_sentence n is = plain_means (sentence n) (plain_in refusals refl n is)
