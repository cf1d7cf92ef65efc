-- The first 906 bytes of a longer list are refused for the same reason as the whole, since no sheet has more than 905.
use Prim.Native.Nat.{ℕ, ◌+◌, ◌*◌, ◌≤◌}
use mathlib.Core.List.{List, [], ◌∷◌}
use mathlib.Core.Bool.{Bool, true, false, not, cond}
use mathlib.Core.Path.{◌≡◌, refl, sym, ◌∙◌}
use native.Mathlib.Omega.{arith}
use borrow.Author.Tests.{le-ltb, ne_eqb, not-false}
use lib.Dec.{eqb, ltb}
use lib.ListN.{get_or, length, take}
use lib.Seq.{get_or-take, take-take, length-take-le}
use Rattle.mathematics.specs.Lists.{same}
use Rattle.mathematics.specs.Refusals.{first}
use Rattle.mathematics.proofs.Refusals.{first_stops}
use Rattle.complex.specs.Complex.{complex_of}
use Rattle.complex.specs.Judge.{counts_right, shape_tests}
use Rattle.complex.proofs.Accepting.{counts}
use Rattle.sheet.specs.Sheet.{word, sheet_in, header_tests, reading_refusal}

-- the tests after the length, where the last holds once the counts are right
tests_end : (a b c d x : Bool) → (c ≡ false → x ≡ true) → ◌≡◌ {A = ℕ} (cond a 2 (cond b 3 (cond c 4 (cond d 5 (cond x 6 0))))) (cond a 2 (cond b 3 (cond c 4 (cond d 5 6))))
tests_end true b c d x h = refl
tests_end false true c d x h = refl
tests_end false false true d x h = refl
tests_end false false false true x h = refl
tests_end false false false false x h = rw (h refl)

some_number : (a b c d : Bool) → ◌≡◌ {A = ℕ} (cond a 2 (cond b 3 (cond c 4 (cond d 5 6)))) 0 → ⊥
some_number true b c d h = omega arith
some_number false true c d h = omega arith
some_number false false true d h = omega arith
some_number false false false true h = omega arith
some_number false false false false h = omega arith

-- what the first bytes of a long input are refused by
abbrev no_mark : List ℕ → Bool
no_mark b = not (same (take 3 b) (71 ∷ 76 ∷ 83 ∷ []))

abbrev no_version : List ℕ → Bool
no_version b = not (eqb (word b 3) 1)

abbrev no_counts : List ℕ → Bool
no_counts b = not (counts_right (get_or b 5 0) (get_or b 6 0) (word b 7))

abbrev no_truncation : List ℕ → Bool
no_truncation b = ltb 1000 (word b 9)

long_number : List ℕ → ℕ
long_number b = cond (no_mark b) 2 (cond (no_version b) 3 (cond (no_counts b) 4 (cond (no_truncation b) 5 6)))

-- the length is none of a sheet's
no_length : (b : List ℕ) → 906 ≤ length b → no_counts b ≡ false → not (eqb (length b) (11 + 2 * get_or b 6 0 + 3 * word b 7)) ≡ true
no_length b long right =
    let k = counts (get_or b 5 0) (get_or b 6 0) (word b 7) (not-false _ right) in
    let e = k.edges in
    let t = k.triangles in
    rw (ne_eqb (length b) (11 + 2 * get_or b 6 0 + 3 * word b 7) (λ z. omega arith))

long_refused : (b : List ℕ) → 906 ≤ length b → first (header_tests b) ≡ long_number b
unfolding header_tests first long_number
long_refused b long = rw (le-ltb (length b) 11 (omega arith)) (tests_end (no_mark b) (no_version b) (no_counts b) (no_truncation b) (not (eqb (length b) (11 + 2 * get_or b 6 0 + 3 * word b 7))) (no_length b long))

-- the first 906 bytes say the same
cut_number : (b : List ℕ) → long_number (take 906 b) ≡ long_number b
unfolding long_number word
cut_number b =
    rw
    (take-take 3 906 b (omega arith), get_or-take 906 b 3 0 (omega arith), get_or-take 906 b 4 0 (omega arith), get_or-take 906 b 5 0 (omega arith), get_or-take 906 b 6 0 (omega arith), get_or-take 906 b 7 0 (omega arith), get_or-take 906 b 8 0 (omega arith), get_or-take 906 b 9 0 (omega arith), get_or-take 906 b 10 0 (omega arith))

module _ (b : List ℕ) (long : 906 ≤ length b) where
  number_some : long_number b ≡ 0 → ⊥
  unfolding long_number
  number_some h = some_number (no_mark b) (no_version b) (no_counts b) (no_truncation b) h

  read_number : reading_refusal b ≡ long_number b
  unfolding reading_refusal
  read_number =
      first_stops (header_tests b) (shape_tests (complex_of (sheet_in b).complex)) (λ z. number_some (sym (long_refused b long) ∙ z)) ∙ long_refused b long

  pub long_some : reading_refusal b ≡ 0 → ⊥
  long_some h = number_some (sym read_number ∙ h)

pub cut_same : (b : List ℕ) → 906 ≤ length b → reading_refusal (take 906 b) ≡ reading_refusal b
cut_same b long =
    let same_long : 906 ≤ length (take 906 b) = rw (length-take-le 906 b long) (omega arith) in
    read_number (take 906 b) same_long ∙ cut_number b ∙ sym (read_number b long)
