-- The judge of the lists and that of a product agree.
use Prim.Native.Nat.{ℕ, zero, suc, ◌+◌, ◌-◌, ◌^◌, ◌<◌, ◌≤◌}
use mathlib.Core.List.{List}
use mathlib.Core.Bool.{Bool, true, false, not, ◌||◌, true≢false}
use mathlib.Core.Path.{◌≡◌, refl, sym, ◌∙◌}
use native.Mathlib.Omega.{arith}
use borrow.Author.Tests.{eq-eqb, ne_eqb, le-ltb}
use lib.Dec.{eqb}
use lib.Ieee.{Float, nan, round, neg, le, lt, eq, of_int}
use lib.ListN.{get_or, length, replicate, length-replicate, get_or-replicate}
use Rattle.mathematics.specs.Tests.{every_entry}
use Rattle.mathematics.specs.Refusals.{first, value, refused}
use Rattle.mathematics.specs.Calls.{Answered, none_lent}
use Rattle.mathematics.proofs.Calls.{none, here, past, refuses, ends}
use Rattle.mathematics.proofs.Tests.{or_false, at_all}
use Rattle.matrices.specs.Coupling.{float_of}
use Rattle.matrices.specs.Weights.{bounded}
use Rattle.matvec.specs.Product.{lengths_wrong, places_wrong, numbers_wrong, product_tests, Within}
use Rattle.matvec.proofs.Validity.{fit_valid, passes_valid, valid_passes}
use Rattle.held_rows.specs.Lists.{row_count, list_lengths_wrong, list_places_wrong, values_wrong, lists_tests, lists_call, ValidLists}

-- where a vector has one amplitude for each row, its test of the starts is that of the lists
no_start : (n m : ℕ) → m ≡ n - 1 → not (eqb n (m + 1)) ≡ eqb n 0
no_start zero m e = rw e refl
no_start (suc n) m e =
    let is : suc n ≡ m + 1 = omega arith in
    rw (eq-eqb (suc n) (m + 1) is, ne_eqb (suc n) 0 (λ z. omega arith)) refl

pub some_start : (b : Bool) (n m : ℕ) → (eqb n 0 || b) ≡ false → m ≡ n - 1 → n ≡ m + 1
some_start b zero m h e = absurd (true≢false h)
some_start b (suc n) m h e = omega arith

module _ (starts columns : List ℕ) (values vector : List Float) (long : length vector ≡ row_count starts) where
  same_lengths : lengths_wrong starts columns values vector ≡ list_lengths_wrong starts columns values
  same_lengths = rw (no_start (length starts) (length vector) long) refl

  same_places : places_wrong starts columns vector ≡ list_places_wrong starts columns
  same_places = rw long refl

  same_numbers : every_entry bounded vector ≡ true → numbers_wrong values vector ≡ values_wrong values
  same_numbers h = rw h (or_false (values_wrong values))

  -- with amplitudes in their range and room for the result, a product is refused for the lists alone, with the same number
  pub judged_alike : (room : ℕ) → every_entry bounded vector ≡ true → length vector ≤ room → first (product_tests starts columns values vector room) ≡ first (lists_tests starts columns values)
  unfolding first
  judged_alike room h fits = rw (same_lengths, same_places, same_numbers h, le-ltb room (length vector) fits) refl

within_bounded : (vector : List Float) → ((i : ℕ) → i < length vector → Within (float_of (2 ^ 32)) (get_or vector i nan)) → every_entry bounded vector ≡ true
unfolding bounded
within_bounded vector h = at_all bounded nan vector (λ i il. rw ((h i il).above, (h i il).under))

zero_within : Within (float_of (2 ^ 32)) (float_of 0)
unfolding float_of of_int round neg le lt eq
zero_within = record { finite = refl; above = refl; under = refl }

module _ (starts columns : List ℕ) (values : List Float) where
  pub lists_valid : list_lengths_wrong starts columns values ≡ false → list_places_wrong starts columns ≡ false → values_wrong values ≡ false → ValidLists starts columns values
  lists_valid l p x vector long within =
      fit_valid starts columns values vector
      (same_lengths starts columns values vector long ∙ l)
      (same_places starts columns values vector long ∙ p)
      (same_numbers starts columns values vector long (within_bounded vector within) ∙ x)

  -- lists whose product with some vector is not refused pass
  pub taken_judged : (vector : List Float) (room : ℕ) → first (product_tests starts columns values vector room) ≡ 0 → (length vector ≡ row_count starts) × (first (lists_tests starts columns values) ≡ 0)
  taken_judged vector room h =
      let p = passes_valid starts columns values vector room h in
      let long : length vector ≡ row_count starts = omega (arith, p.0.starts_long) in
      (long, sym (judged_alike starts columns values vector long room (within_bounded vector p.0.amplitudes_within) p.1) ∙ h)

  -- so do lists that have a product with every vector in range, such as all zeros
  pub lists_pass : ValidLists starts columns values → first (lists_tests starts columns values) ≡ 0
  lists_pass valid =
      let zeros : List Float = replicate (row_count starts) (float_of 0) in
      let long : length zeros ≡ row_count starts = length-replicate (row_count starts) (float_of 0) in
      let within : (i : ℕ) → i < length zeros → Within (float_of (2 ^ 32)) (get_or zeros i nan) = λ i h. rw (get_or-replicate (row_count starts) i (float_of 0) nan (omega arith)) zero_within in
      (taken_judged zeros (length zeros) (valid_passes starts columns values zeros (length zeros) (valid zeros long within) (omega arith))).1

-- ---- what the judge answers, by the test that decides it
module _ (starts columns : List ℕ) (values : List Float) where
  pub lengths_told : list_lengths_wrong starts columns values ≡ true → Answered (lists_call starts columns values) (refused 12) none_lent
  unfolding lists_call
  lengths_told h = refuses _ (here h) refl

  module _ (fit : list_lengths_wrong starts columns values ≡ false) where
    pub places_told : list_places_wrong starts columns ≡ true → Answered (lists_call starts columns values) (refused 13) none_lent
    unfolding lists_call
    places_told h = refuses _ (past fit (here h)) refl

    module _ (placed : list_places_wrong starts columns ≡ false) where
      pub values_told : values_wrong values ≡ true → Answered (lists_call starts columns values) (refused 14) none_lent
      unfolding lists_call
      values_told h = refuses _ (past fit (past placed (here h))) refl

      pub rows_told : values_wrong values ≡ false → Answered (lists_call starts columns values) (value (row_count starts)) none_lent
      unfolding lists_call
      rows_told h = ends _ (past fit (past placed (past h none))) refl refl (lists_valid starts columns values fit placed h)
