-- What it means that row lists and a vector pass all tests of a product, both ways.
use Prim.Native.Nat.{ℕ, zero, suc, ◌+◌, ◌-◌, ◌^◌, ◌≤◌}
use mathlib.Core.List.{List, [], ◌∷◌}
use mathlib.Core.Bool.{Bool, true, false, not, ◌&&◌, ◌||◌, false≢true, true≢false}
use mathlib.Core.Path.{◌≡◌, refl}
use native.Mathlib.Nat.{add-zero}
use native.Mathlib.Omega.{arith}
use borrow.Author.Tests.{ltb-true, ltb-false, leb-true, eqb-true, eq-eqb, le-leb, lt-ltb, le-ltb}
use lib.Dec.{eqb, leb, ltb}
use lib.IntN.{ℤ, pos}
use lib.Ieee.{Float, nan, inf, fin, round, neg, le, lt, eq, of_int}
use lib.Ieee.Scale.{finite}
use lib.ListN.{length, get_or}
use Rattle.mathematics.specs.Tests.{every_entry}
use Rattle.mathematics.specs.Refusals.{first}
use Rattle.mathematics.proofs.Tests.{and_parts, all_at, at_all}
use Rattle.mathematics.proofs.Counting.{every_at, at_every}
use Rattle.matrices.specs.Coupling.{float_of}
use Rattle.matrices.specs.Weights.{bounded}
use Rattle.matvec.specs.Product.{never_falls, starts_right, columns_right, value_right, lengths_wrong, places_wrong, numbers_wrong, product_tests, Within, Valid}

-- ---- floats
-- what is not above a finite limit in size is finite
finite_within : (m : ℕ) (e : ℤ) (x : Float) → (le (neg (fin false m e)) x && le x (fin false m e)) ≡ true → finite x ≡ true
unfolding neg le lt eq
finite_within m e nan h = absurd (false≢true h)
finite_within m e (inf true) h = absurd (false≢true h)
finite_within m e (inf false) h = absurd (false≢true h)
finite_within m e (fin s k d) h = refl

within : (k : ℕ) (limit x : Float) → limit ≡ fin false 1 (pos k) → (le (neg limit) x && le x limit) ≡ true → Within limit x
within k limit x e h =
    let parts = and_parts (le (neg limit) x) (le x limit) h in
    record { finite = finite_within 1 (pos k) x (rw e at h); above = parts.0; under = parts.1 }

value_within : (x : Float) → value_right x ≡ true → Within (float_of (2 ^ 80)) x
unfolding value_right float_of of_int round
value_within x h = within 80 (float_of (2 ^ 80)) x refl h

amplitude_within : (x : Float) → bounded x ≡ true → Within (float_of (2 ^ 32)) x
unfolding bounded float_of of_int round
amplitude_within x h = within 32 (float_of (2 ^ 32)) x refl h

-- ---- starts
module _ (starts : List ℕ) (n : ℕ) (h : never_falls starts n ≡ true) where
  climbs : (d i : ℕ) → i + d ≤ n → get_or starts i 0 ≤ get_or starts (i + d) 0
  unfolding never_falls
  climbs zero i k = rw (add-zero i) (omega arith)
  climbs (suc d) i k =
      let next : i + d + 1 ≡ i + suc d = omega arith in
      let step : get_or starts (i + d) 0 ≤ get_or starts (i + suc d) 0 = rw next at (leb-true (get_or starts (i + d) 0) (get_or starts (i + d + 1) 0) (every_at (λ i. leb (get_or starts i 0) (get_or starts (i + 1) 0)) n h (i + d) (omega arith))) in
      omega (arith, climbs d i (omega arith))

  starts_in_order : (i j : ℕ) → i ≤ j → j ≤ n → get_or starts i 0 ≤ get_or starts j 0
  starts_in_order i j k l =
      let e : i + (j - i) ≡ j = omega arith in
      rw e at (climbs (j - i) i (omega arith))

-- ---- all tests
both_pass : (a b : Bool) → (not a || not b) ≡ false → (a ≡ true) × (b ≡ true)
both_pass true true h = (refl, refl)
both_pass true false h = absurd (true≢false h)
both_pass false b h = absurd (true≢false h)

four_pass : (a b c d : Bool) → first ((12, a) ∷ (13, b) ∷ (14, c) ∷ (15, d) ∷ []) ≡ 0 → (a ≡ false) × (b ≡ false) × (c ≡ false) × (d ≡ false)
unfolding first
four_pass true b c d h = absurd (omega arith)
four_pass false true c d h = absurd (omega arith)
four_pass false false true d h = absurd (omega arith)
four_pass false false false true h = absurd (omega arith)
four_pass false false false false h = (refl, refl, refl, refl)

module _ (starts columns : List ℕ) (values vector : List Float) where
  pub lengths_fit : lengths_wrong starts columns values vector ≡ false → (length starts ≡ length vector + 1) × (length columns ≡ length values)
  lengths_fit h =
      let p = both_pass (eqb (length starts) (length vector + 1)) (eqb (length columns) (length values)) h in
      (eqb-true _ _ p.0, eqb-true _ _ p.1)

  pub fit_valid : lengths_wrong starts columns values vector ≡ false → places_wrong starts columns vector ≡ false → numbers_wrong values vector ≡ false → Valid starts columns values vector
  unfolding starts_right columns_right
  fit_valid l p x =
      let lengths = lengths_fit l in
      let places = both_pass (starts_right starts (length vector) (length columns)) (columns_right columns (length vector)) p in
      let runs = and_parts (eqb (get_or starts 0 0) 0 && eqb (get_or starts (length vector) 0) (length columns)) (never_falls starts (length vector)) places.0 in
      let ends = and_parts (eqb (get_or starts 0 0) 0) (eqb (get_or starts (length vector) 0) (length columns)) runs.0 in
      let numbers = both_pass (every_entry value_right values) (every_entry bounded vector) x in
      record {
        starts_long = lengths.0;
        same_length = lengths.1;
        first_start = eqb-true _ _ ends.0;
        last_start = eqb-true _ _ ends.1;
        in_order = starts_in_order starts (length vector) runs.1;
        columns_below = λ k h. ltb-true _ _ (all_at (λ j. ltb j (length vector)) 0 columns places.1 k h);
        values_within = λ k h. value_within _ (all_at value_right nan values numbers.0 k h);
        amplitudes_within = λ i h. amplitude_within _ (all_at bounded nan vector numbers.1 i h);
      }

  pub passes_valid : (room : ℕ) → first (product_tests starts columns values vector room) ≡ 0 → Valid starts columns values vector × (length vector ≤ room)
  passes_valid room h =
      let p = four_pass (lengths_wrong starts columns values vector) (places_wrong starts columns vector) (numbers_wrong values vector) (ltb room (length vector)) h in
      (fit_valid p.0 p.1 p.2, ltb-false room (length vector) p.3)

  pub valid_passes : (room : ℕ) → Valid starts columns values vector → length vector ≤ room → first (product_tests starts columns values vector room) ≡ 0
  unfolding first starts_right columns_right never_falls value_right bounded
  valid_passes room v fits =
      rw (
        eq-eqb _ _ v.starts_long,
        eq-eqb _ _ v.same_length,
        eq-eqb _ _ v.first_start,
        eq-eqb _ _ v.last_start,
        at_every (λ i. leb (get_or starts i 0) (get_or starts (i + 1) 0)) (length vector) (λ i h. le-leb _ _ (v.in_order i (i + 1) (omega arith) (omega arith))),
        at_all (λ j. ltb j (length vector)) 0 columns (λ k h. lt-ltb _ _ (v.columns_below k h)),
        at_all value_right nan values (λ k h. rw ((v.values_within k h).above, (v.values_within k h).under)),
        at_all bounded nan vector (λ i h. rw ((v.amplitudes_within i h).above, (v.amplitudes_within i h).under)),
        le-ltb room (length vector) fits,
      )
