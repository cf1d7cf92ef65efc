-- What the judge of the header tells, by the test that decides it.
use Rattle.mathematics.proofs.Tests.{same_turned}
use Rattle.std.proofs.Common.{◌≡◌, ℕ, ◌+◌, ◌*◌, ◌<◌, ◌≤◌, List, [], ◌∷◌, true, false, refl, get_or, length, take, lt-ltb, le-ltb}
use Rattle.std.specs.List.{starts_with}
use borrow.Author.Tests.{eq-eqb, ne_eqb}
use lib.Dec.{eqb}
use lib.Pointwise.{pointwise}
use Rattle.mathematics.specs.Lists.{same}
use Rattle.mathematics.specs.Refusals.{first}
use Rattle.complex.specs.Judge.{counts_right}
use Rattle.sheet.specs.Sheet.{word, header_tests}

same_entries : (l m : List ℕ) → pointwise eqb m l ≡ same l m
unfolding same
same_entries [] [] = refl
same_entries [] (b ∷ m) = refl
same_entries (a ∷ l) [] = refl
same_entries (a ∷ l) (b ∷ m) = rw (same_turned b a, same_entries l m)

module _ (b : List ℕ) where
  pub short_told : length b < 11 → 1 ≡ first (header_tests b)
  unfolding first header_tests
  short_told h = rw (lt-ltb (length b) 11 h)

  module _ (long : 11 ≤ length b) where
    pub mark_told : starts_with eqb b (71 ∷ 76 ∷ 83 ∷ []) ≡ false → 2 ≡ first (header_tests b)
    unfolding first header_tests
    mark_told h = rw (le-ltb (length b) 11 long, ← same_entries (take 3 b) (71 ∷ 76 ∷ 83 ∷ []), h)

    module _ (mark : starts_with eqb b (71 ∷ 76 ∷ 83 ∷ []) ≡ true) where
      pub version_told : (word b 3 ≡ 1 → ⊥) → 3 ≡ first (header_tests b)
      unfolding first header_tests
      version_told h = rw (le-ltb (length b) 11 long, ← same_entries (take 3 b) (71 ∷ 76 ∷ 83 ∷ []), mark, ne_eqb (word b 3) 1 h)

      module _ (version : word b 3 ≡ 1) where
        pub counts_told : counts_right (get_or b 5 0) (get_or b 6 0) (word b 7) ≡ false → 4 ≡ first (header_tests b)
        unfolding first header_tests
        counts_told h = rw (le-ltb (length b) 11 long, ← same_entries (take 3 b) (71 ∷ 76 ∷ 83 ∷ []), mark, eq-eqb (word b 3) 1 version, h)

        module _ (right : counts_right (get_or b 5 0) (get_or b 6 0) (word b 7) ≡ true) where
          pub truncation_told : 1000 < word b 9 → 5 ≡ first (header_tests b)
          unfolding first header_tests
          truncation_told h = rw (le-ltb (length b) 11 long, ← same_entries (take 3 b) (71 ∷ 76 ∷ 83 ∷ []), mark, eq-eqb (word b 3) 1 version, right, lt-ltb 1000 (word b 9) h)

          module _ (few : word b 9 ≤ 1000) where
            pub length_told : (length b ≡ 11 + 2 * get_or b 6 0 + 3 * word b 7 → ⊥) → 6 ≡ first (header_tests b)
            unfolding first header_tests
            length_told h = rw (le-ltb (length b) 11 long, ← same_entries (take 3 b) (71 ∷ 76 ∷ 83 ∷ []), mark, eq-eqb (word b 3) 1 version, right, le-ltb 1000 (word b 9) few, ne_eqb (length b) (11 + 2 * get_or b 6 0 + 3 * word b 7) h)

            pub header_told : length b ≡ 11 + 2 * get_or b 6 0 + 3 * word b 7 → 0 ≡ first (header_tests b)
            unfolding first header_tests
            header_told h = rw (le-ltb (length b) 11 long, ← same_entries (take 3 b) (71 ∷ 76 ∷ 83 ∷ []), mark, eq-eqb (word b 3) 1 version, right, le-ltb 1000 (word b 9) few, eq-eqb (length b) (11 + 2 * get_or b 6 0 + 3 * word b 7) h)
