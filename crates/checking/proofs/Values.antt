-- The number that a word says is the one that the library reads in it.
use Prim.Native.Nat.{ℕ, zero, suc, ◌<◌, ◌≤◌}
use mathlib.Core.List.{List, [], ◌∷◌}
use mathlib.Core.Bool.{Bool, true, false, ◌&&◌, cond, false≢true, true≢false}
use mathlib.Core.Path.{◌≡◌, refl, sym, ap, ◌∙◌}
use native.Mathlib.Omega.{arith}
use borrow.Author.Tests.{leb-true, le-leb, eqb-true, eqb-false, ne_eqb}
use lib.Dec.{eqb, leb}
use lib.IntN.{ℤ, pos, negsuc, neg_ℤ}
use lib.ListN.{length, get_or}
use mir.Syntax.{w32}
use mir.Val.{SFits}
use Rattle.std.proofs.Common.{Some, None, Result, Ok, Err}
use Rattle.std.specs.Option.{option_map}
use Rattle.std.specs.Result.{OkIff, result_ok}
use Rattle.std.specs.Int.{IsInRange}
use Rattle.std.specs.List.{starts_with}
use Rattle.std.specs.Str.{IsUtf8}
use Rattle.std.specs.Str.Parse.{ParsesSigned}
use Rattle.std.proofs.lemmas.Str.{IsUtf8-append, IsUtf8-from_ascii}
use Rattle.std.proofs.lemmas.Str.Parse.{IsNumeralModel, IsDigitsTest, FoldsDigits, numerals_by_fold, parse_signed_minus, parse_signed_plain}
use Rattle.mathematics.specs.Tests.{every_entry}
use Rattle.mathematics.proofs.Tests.{and_parts, and_both}
use Rattle.lines.specs.Lines.{ascii, decimal, digit, read_on, signed_text}
use Rattle.lines.proofs.Digits.{read_back, some_digit, digit_bytes}
use Rattle.checking.specs.Value.{digits_in, value_in}

-- ---- digits
digit_range : (b : ℕ) → digit b ≡ true → IsInRange 48 57 b
unfolding digit
digit_range b h = let p = and_parts (leb 48 b) (leb b 57) h in (leb-true 48 b p.0, leb-true b 57 p.1)

range_digit : (b : ℕ) → IsInRange 48 57 b → digit b ≡ true
unfolding digit
range_digit b r = and_both (leb 48 b) (leb b 57) (le-leb 48 b r.0) (le-leb b 57 r.1)

digits_tested : IsDigitsTest (λ l. every_entry digit l ≡ true)
unfolding every_entry
digits_tested =
    record {
      empty = refl;
      parts = λ b l h. let p = and_parts (digit b) (every_entry digit l) h in (digit_range b p.0, p.1);
      more = λ b l r h. and_both (digit b) (every_entry digit l) (range_digit b r) h;
    }

digits_folded : FoldsDigits read_on
unfolding read_on
digits_folded = record { empty = λ n. refl; more = λ n b l r. ap (λ k. read_on k l) (omega arith) }

own : IsNumeralModel (λ l. every_entry digit l ≡ true) (read_on 0)
own = numerals_by_fold (λ l. every_entry digit l ≡ true) digits_tested read_on digits_folded

-- ---- a result that is Ok just where a test holds
ok_where : {E : Type 0} (r : Result ℤ E) (Q : Type 0) (z : ℤ) (b : Bool) → OkIff r Q z → (Q → b ≡ true) → (b ≡ true → Q) → result_ok r ≡ cond b (Some z) None
ok_where (Ok x) Q z true h to from = ap Some h.1
ok_where (Ok x) Q z false h to from = absurd (false≢true (to h.0))
ok_where (Err e) Q z true h to from = absurd (h (from refl))
ok_where (Err e) Q z false h to from = refl

mapped : (f : ℕ → ℤ) (b : Bool) (n : ℕ) → option_map f (cond b (Some n) None) ≡ cond b (Some (f n)) None
mapped f true n = refl
mapped f false n = refl

module _ (limit : ℕ) (l : List ℕ) where
  abbrev test : Bool
  test = (leb 1 (length l) && every_entry digit l) && leb (read_on 0 l) limit

  tested : (every_entry digit l ≡ true) × (0 < length l) × (read_on 0 l ≤ limit) → test ≡ true
  tested h = and_both (leb 1 (length l) && every_entry digit l) (leb (read_on 0 l) limit) (and_both (leb 1 (length l)) (every_entry digit l) (le-leb 1 (length l) h.1) h.0) (le-leb (read_on 0 l) limit h.2)

  holds : test ≡ true → (every_entry digit l ≡ true) × (0 < length l) × (read_on 0 l ≤ limit)
  holds h =
      let p = and_parts (leb 1 (length l) && every_entry digit l) (leb (read_on 0 l) limit) h in
      let q = and_parts (leb 1 (length l)) (every_entry digit l) p.0 in
      (q.1, leb-true 1 (length l) q.0, leb-true (read_on 0 l) limit p.1)

-- ---- the library's number
module _ {E : Type 0} (r : Result ℤ E) where
  minus_read : (l : List ℕ) → ParsesSigned w32 10 (45 ∷ l) r → result_ok r ≡ option_map (λ n. neg_ℤ (pos n)) (digits_in 2147483648 l)
  unfolding digits_in
  minus_read l h =
      ok_where r _ _ (test 2147483648 l) (parse_signed_minus own w32 (45 ∷ l) r h refl) (tested 2147483648 l) (holds 2147483648 l)
      ∙ sym (mapped (λ n. neg_ℤ (pos n)) (test 2147483648 l) (read_on 0 l))

  plain_read : (word : List ℕ) → (get_or word 0 0 ≡ 43 → ⊥) → (get_or word 0 0 ≡ 45 → ⊥) → ParsesSigned w32 10 word r → result_ok r ≡ option_map pos (digits_in 2147483647 word)
  unfolding digits_in
  plain_read word plus minus h =
      ok_where r _ _ (test 2147483647 word) (parse_signed_plain own w32 word r h plus minus)
      (λ q. tested 2147483647 word (q.0, q.1, omega (arith, q.2)))
      (λ e. let q = holds 2147483647 word e in (q.0, q.1, omega (arith, q.2)))
      ∙ sym (mapped pos (test 2147483647 word) (read_on 0 word))

  -- a word that does not begin with a plus
  pub word_read : (word : List ℕ) → starts_with eqb word (43 ∷ []) ≡ false → ParsesSigned w32 10 word r → result_ok r ≡ value_in word
  unfolding value_in digits_in
  word_read [] plus h = plain_read [] (λ z. omega arith) (λ z. omega arith) h
  word_read (b ∷ l) plus h = go (eqb b 45) refl
    where
      go : (c : Bool) → eqb b 45 ≡ c → result_ok r ≡ cond c (option_map (λ n. neg_ℤ (pos n)) (digits_in 2147483648 l)) (option_map pos (digits_in 2147483647 (b ∷ l)))
      go true e = minus_read l (rw (eqb-true b 45 e) at h)
      go false e = plain_read (b ∷ l) (λ z. true≢false (rw z at plus)) (eqb-false b 45 e) h

-- ---- words that say no number
-- one that begins with a plus
pub plus_none : (word : List ℕ) → starts_with eqb word (43 ∷ []) ≡ true → None ≡ value_in word
unfolding value_in digits_in every_entry digit
plus_none [] h = absurd (false≢true h)
plus_none (b ∷ l) h = let e = eqb-true 43 b (and_parts (eqb 43 b) true h).0 in rw (← e, le-leb 1 (suc (length l)) (omega arith)) refl

-- bytes that are no text
below_128 : (l : List ℕ) → every_entry digit l ≡ true → (i : ℕ) → get_or l i 0 < 128
unfolding every_entry
below_128 [] h i = omega arith
below_128 (b ∷ l) h zero = omega (arith, (digit_range b (and_parts (digit b) (every_entry digit l) h).0).1)
below_128 (b ∷ l) h (suc i) = below_128 l (and_parts (digit b) (every_entry digit l) h).1 i

none_in : (limit : ℕ) (l : List ℕ) → (IsUtf8 l → ⊥) → None ≡ digits_in limit l
unfolding digits_in
none_in limit l h = go (test limit l) refl
  where
    go : (t : Bool) → test limit l ≡ t → None ≡ cond t (Some (read_on 0 l)) None
    go true e = absurd (h (IsUtf8-from_ascii l (below_128 l (holds limit l e).0)))
    go false e = refl

minus_ascii : (i : ℕ) → get_or (45 ∷ []) i 0 < 128
minus_ascii zero = omega arith
minus_ascii (suc i) = omega arith

minus_text : (l : List ℕ) → IsUtf8 l → IsUtf8 (45 ∷ l)
minus_text l h = IsUtf8-append (45 ∷ []) l (IsUtf8-from_ascii (45 ∷ []) minus_ascii) h

pub no_text_none : (word : List ℕ) → (IsUtf8 word → ⊥) → None ≡ value_in word
unfolding value_in
no_text_none [] h = refl
no_text_none (b ∷ l) h = go (eqb b 45) refl
  where
    go : (c : Bool) → eqb b 45 ≡ c → None ≡ cond c (option_map (λ n. neg_ℤ (pos n)) (digits_in 2147483648 l)) (option_map pos (digits_in 2147483647 (b ∷ l)))
    go true e = ap (option_map (λ n. neg_ℤ (pos n))) (none_in 2147483648 l (λ u. h (rw (eqb-true b 45 e) (minus_text l u))))
    go false e = ap (option_map pos) (none_in 2147483647 (b ∷ l) h)

-- ---- what is printed is read back
digits_read : (limit n : ℕ) (l : List ℕ) → every_entry digit l ≡ true → 0 < length l → read_on 0 l ≡ n → n ≤ limit → digits_in limit l ≡ Some n
unfolding digits_in
digits_read limit n l all some is few = rw (tested limit l (all, some, omega arith)) (ap Some is)

no_minus : (word : List ℕ) → every_entry digit word ≡ true → 0 < length word → value_in word ≡ option_map pos (digits_in 2147483647 word)
unfolding every_entry value_in
no_minus [] h some = absurd (omega arith)
no_minus (b ∷ l) h some =
    let r = digit_range b (and_parts (digit b) (every_entry digit l) h).0 in
    rw (ne_eqb b 45 (λ z. omega (arith, r.0))) refl

minus : (l : List ℕ) → value_in (45 ∷ l) ≡ option_map (λ n. neg_ℤ (pos n)) (digits_in 2147483648 l)
unfolding value_in
minus l = refl

pub value_back : (z : ℤ) → SFits w32 z → value_in (signed_text z) ≡ Some z
unfolding signed_text ascii digit
value_back (pos n) fits =
    no_minus (decimal n) (digit_bytes n) (some_digit n)
    ∙ ap (option_map pos) (digits_read 2147483647 n (decimal n) (digit_bytes n) (some_digit n) (read_back n) (omega (arith, fits.sfits)))
value_back (negsuc n) fits =
    let l = decimal (suc n) in
    minus l
    ∙ ap (option_map (λ n. neg_ℤ (pos n))) (digits_read 2147483648 (suc n) l (digit_bytes (suc n)) (some_digit (suc n)) (read_back (suc n)) (omega (arith, fits.sfits)))
