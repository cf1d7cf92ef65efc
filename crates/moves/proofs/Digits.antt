-- The digits of a number, and a number read digit by digit.
use Prim.Native.Nat.{ℕ, zero, suc, ◌+◌, ◌-◌, ◌*◌, ◌^◌, ◌<◌, ◌≤◌}
use mathlib.Core.List.{List, [], ◌∷◌, ◌++◌}
use mathlib.Core.Path.{◌≡◌, refl, ap, ◌∙◌}
use native.Mathlib.Omega.{arith}
use native.Mathlib.Nat.{mul-le-mul_left}
use lib.IntN.{ℤ, pos, nat_abs, ◌+ℤ◌}
use lib.ListN.{get_or, length, take, length-append}
use mir.Syntax.{w32, w64}
use mir.Val.{Fits, to_z, of_z}
use Rattle.std.proofs.Common.{Bor, Option, Some, None, Iter}
use Rattle.std.specs.declared.iter.Rev.{Rev}
use Rattle.std.specs.Iterator.{Yields}
use Rattle.std.specs.Iterator.Adapters.{rev_source, rev_steps}
use Rattle.std.specs.Slice.Iter.{iter_rest, iter_steps_back}
use Rattle.mathematics.proofs.Signed.{small_back}
use Rattle.hilbert.proofs.Searching.{read_next, read_end}
use Rattle.moves.specs.Numbers.{numeral, digit, number, Numbered}

numeral_least : (base : ℕ) (x : ℕ → ℕ) (n a : ℕ) → 1 ≤ base → a ≤ numeral base x n a
unfolding numeral
numeral_least base x zero a h = omega arith
numeral_least base x (suc n) a h =
    let grown : a * 1 ≤ a * base = mul-le-mul_left a h in
    omega (arith, grown, numeral_least base x n (a * base + x n) h)

-- the next digit
numeral_next : (base : ℕ) (x : ℕ → ℕ) (j a d total : ℕ) → 1 ≤ base → 0 < j → numeral base x j a ≡ total → d ≡ x (j - 1)
    → (numeral base x (j - 1) (a * base + d) ≡ total) × (a * base + d ≤ total)
unfolding numeral
numeral_next base x zero a d total h more is e = absurd (omega arith)
numeral_next base x (suc j) a d total h more is e =
    let one : suc j - 1 ≡ j = omega arith in
    let same : numeral base x j (a * base + d) ≡ total = rw (rw one at e) is in
    rw one (same, omega (arith, same, numeral_least base x j (a * base + d) h))

-- the free edges are read from the last on, and so many of them were read
module _ {L low : ℕ} {free : List ℕ} {n : ℕ} {row : List ℤ} (h : Numbered L low free n row) where
  room : n ≤ length free
  room = omega (arith, h.free_few, h.free_fit.long)

  module _ (read : List (Bor ℕ)) (s t u : Rev (Iter ℕ)) (a : ℕ) (start : iter_rest (rev_source s) ≡ take n free) (by : Yields (rev_steps iter_steps_back) s read t) (so_far : numeral (2 * L + 1) (digit low free row) (n - length read) a ≡ number L low free n row) {r : Option (Bor ℕ)} (step : rev_steps iter_steps_back t r u) where
    -- another is read
    module _ {x : Bor ℕ} (is : r ≡ Some x) where
      there : (length read < n) × (x.now ≡ get_or free (n - length read - 1) 0)
      there = read_next free n room read s t u start by step is

      next : (d : ℕ) → d ≡ digit low free row (n - length read - 1) → (numeral (2 * L + 1) (digit low free row) (n - length read - 1) (a * (2 * L + 1) + d) ≡ number L low free n row) × (a * (2 * L + 1) + d ≤ number L low free n row)
      next d told = numeral_next (2 * L + 1) (digit low free row) (n - length read) a d _ (omega arith) (omega (arith, there.0)) so_far told

      pub product_fits : Fits w64 (a * (2 * L + 1))
      product_fits =
          let fits : a * (2 * L + 1) ≤ 2 ^ 30 = omega (arith, (next _ refl).1, h.few) in
          record { fits = omega arith }

      module _ {e d : ℕ} (edge : e ≡ x.now) (told : d ≡ nat_abs (to_z w32 (of_z w32 (get_or row e (pos 0))) +ℤ pos low)) where
        digit_told : d ≡ digit low free row (n - length read - 1)
        unfolding digit
        digit_told =
            let small = h.small e in
            told ∙ rw (small_back (get_or row e (pos 0)) (omega (arith, small, h.low_small))) (ap (λ e. nat_abs (get_or row e (pos 0) +ℤ pos low)) (edge ∙ there.1))

        pub sum_fits : Fits w64 (a * (2 * L + 1) + d)
        sum_fits = record { fits = omega (arith, (next d digit_told).1, h.few) }

        pub number_next : numeral (2 * L + 1) (digit low free row) (n - length (read ++ (x ∷ []))) (a * (2 * L + 1) + d) ≡ number L low free n row
        number_next =
            let less : n - (length read + 1) ≡ n - length read - 1 = omega arith in
            rw (length-append read (x ∷ []), less) (next d digit_told).0

    -- none is left
    pub number_read : r ≡ None → a ≡ number L low free n row
    unfolding numeral
    number_read is = rw (read_end free n room read s t u start by step is) at so_far
