-- What the code of the steps asks of tables and values, and what each turn does.
use Prim.Native.Nat.{ℕ, zero, suc, ◌+◌, ◌-◌, ◌*◌, ◌^◌, ◌≤◌, ◌<◌}
use mathlib.Core.List.{List}
use mathlib.Core.Bool.{Bool, true, false}
use mathlib.Core.Path.{◌≡◌, sym, ap₂, ◌∙◌}
use native.Mathlib.Omega.{arith}
use native.Mathlib.Numerals.{add-one}
use native.Mathlib.Decide.{dec_lt}
use lib.IntN.{ℤ, pos, neg_ℤ, nat_abs, ◌*ℤ◌}
use lib.Signed.{lt_z}
use lib.ListN.{get_or, length, take, drop, get_or-eq_default}
use mir.Syntax.{w32}
use mir.Val.{to_z, of_z}
use Rattle.std.proofs.lemmas.Int.{to_z_pos}
use Rattle.mathematics.proofs.Signed.{size_sum, size_sign, size_neg, small_back}
use Rattle.cycles.specs.Cycles.{row, with_cycle}
use Rattle.walker.specs.Walker.{sum_of_cycles, counted_up, stepped}
use Rattle.walker.specs.Steps.{Small, Addable, CyclesFit}
use Rattle.cycles.proofs.Adding.{added_length, added_at}
use Rattle.cycles.proofs.Rows.{row_at, row_length}

pub added_small : (s : List ℤ) (t : ℤ) (z : List ℤ) (B T : ℕ) → length z ≡ length s → Small B s → nat_abs t ≤ T → Small 1 z → Small (B + T) (with_cycle s t z)
added_small s t z B T long values few signs e =
    rw (added_at s t z e long)
    (omega (arith, values e, size_sign t (get_or z e (pos 0)) (signs e), size_sum (get_or s e (pos 0)) (t *ℤ get_or z e (pos 0))))

module _ (m n L : ℕ) (cycles : List ℤ) (fit : CyclesFit m n L cycles) where
  pub cycle_long : (j : ℕ) → j < 63 → length (row m cycles j) ≡ m
  cycle_long j h = row_length m fit.edges_few cycles j (omega (arith, fit.edges_few, fit.long))

  pub cycle_signs : (j : ℕ) → j < 63 → Small 1 (row m cycles j)
  cycle_signs j h e = go (dec_lt e m)
    where
      go : Dec (e < m) → nat_abs (get_or (row m cycles j) e (pos 0)) ≤ 1
      go (yes l) = rw (row_at m fit.edges_few cycles j e l) (fit.signs (63 * j + e))
      go (no l) = rw (get_or-eq_default (row m cycles j) (pos 0) {n = e} (omega (arith, cycle_long j h))) (omega arith)

-- ---- turns of a loop, each of which takes a cycle away at most 2 L times
-- the values after j turns
pub record Turned (m j : ℕ) (s : List ℤ) : Type 0 where
  pub sized : length s ≡ m
  pub small : Small (2 ^ 20 + j * 2000) s

-- the part of a table of cycles that the code takes is a row
pub row_part : (j m : ℕ) → 63 * j + m - 63 * j ≡ m
row_part j m = omega arith

abbrev part : ℕ → List ℤ → ℕ → List ℤ
part m cycles j = take (63 * j + m - 63 * j) (drop (63 * j) cycles)

module _ {m n L j : ℕ} {cycles s : List ℤ} (fit : CyclesFit m n L cycles) (here : j < n) (h : Turned m j s) where
  inside : j < 63
  inside = omega (arith, fit.free_few)

  -- whether a value is below L, as the machine compares them
  pub below_top : {i e : ℕ} {b : Bool} → i ≡ e → lt_z (to_z w32 (of_z w32 (get_or s i (pos 0)))) (to_z w32 L) ≡ b → lt_z (get_or s e (pos 0)) (pos L) ≡ b
  below_top {i} is test =
      rw (← is)
      (sym (ap₂ lt_z (small_back (get_or s i (pos 0)) (omega (arith, h.small i, inside))) (to_z_pos w32 L (omega (arith, fit.truncation)))) ∙ test)

  -- one turn more: the j-th cycle is added -K times, r in the code
  module _ {K : ℕ} {r : ℤ} (is : r ≡ neg_ℤ (pos K)) (few : K ≤ 2 * L) where
    abbrev z : List ℤ
    z = row m cycles j

    long : length z ≡ length s
    long = cycle_long m n L cycles fit j inside ∙ sym h.sized

    signs : Small 1 z
    signs = cycle_signs m n L cycles fit j inside

    size : nat_abs (neg_ℤ (pos K)) ≤ 2000
    size = omega (arith, size_neg (pos K), fit.truncation)

    back : to_z w32 (of_z w32 r) ≡ neg_ℤ (pos K)
    back = rw is (small_back (neg_ℤ (pos K)) (omega (arith, size)))

    pub turn_may : Addable s (to_z w32 (of_z w32 r)) (part m cycles j)
    turn_may = rw (row_part j m, back) (record { sized = long; values = λ e. omega (arith, h.small e, inside); times = omega (arith, size); signs = signs })

    pub turn_made : {new : List ℤ} → new ≡ with_cycle s (to_z w32 (of_z w32 r)) (part m cycles j) → (new ≡ with_cycle s (neg_ℤ (pos K)) z) × Turned m (j + 1) new
    turn_made added =
        let made = rw (row_part j m, back) at added in
        let values = added_small s (neg_ℤ (pos K)) z (2 ^ 20 + j * 2000) 2000 long h.small size signs in
        (made, rw made (record { sized = added_length s (neg_ℤ (pos K)) z ∙ h.sized; small = λ e. omega (arith, values e) }))

-- ---- from zeros to the lowest candidate
pub combined_next : (cycle : ℕ → List ℤ) (x : ℕ → ℤ) (p : List ℤ) (j : ℕ) → sum_of_cycles cycle x p (j + 1) ≡ with_cycle (sum_of_cycles cycle x p j) (x j) (cycle j)
unfolding sum_of_cycles
combined_next cycle x p j = rw (add-one j)

-- ---- one digit of a step
module _ (free : List ℕ) (cycle : ℕ → List ℤ) (L n j : ℕ) (s : List ℤ) where
  pub step_here : j < n → lt_z (get_or s (get_or free j 0) (pos 0)) (pos L) ≡ true → stepped free cycle L (n - j) j s ≡ with_cycle s (pos 1) (cycle j)
  unfolding stepped counted_up
  step_here h t = let e : n - j ≡ suc (n - (j + 1)) = omega arith in rw (e, t)

  pub step_on : j < n → lt_z (get_or s (get_or free j 0) (pos 0)) (pos L) ≡ false
      → stepped free cycle L (n - j) j s ≡ stepped free cycle L (n - (j + 1)) (j + 1) (with_cycle s (neg_ℤ (pos (2 * L))) (cycle j))
  unfolding stepped counted_up
  step_on h t = let e : n - j ≡ suc (n - (j + 1)) = omega arith in rw (e, t, add-one j)

  pub step_end : n ≤ j → stepped free cycle L (n - j) j s ≡ s
  unfolding stepped counted_up
  step_end h = let e : n - j ≡ zero = omega arith in rw e
