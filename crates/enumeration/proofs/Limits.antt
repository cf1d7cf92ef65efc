-- A power that is multiplied out only as far as the limit, and the room that all candidates take.
use Prim.Native.Nat.{ℕ, zero, suc, ◌+◌, ◌-◌, ◌*◌, ◌^◌, ◌≤◌, ◌<◌}
use mathlib.Core.Bool.{false}
use mathlib.Core.Path.{◌≡◌, refl, sym, ap}
use native.Mathlib.Omega.{arith}
use native.Mathlib.Numerals.{add-one}
use native.Mathlib.Nat.{pow-zero, pow-suc, pow-le-pow_right, mul-le-mul, mul-le-mul_left, mul-le-mul_right}
use native.Mathlib.Decide.{dec_lt}
use lib.Dec.{ltb}
use lib.ListN.{length}
use borrow.Author.Tests.{lt-ltb, le-ltb}
use Rattle.walker.specs.declared.tables.Walker.{Walker}
use Rattle.cycles.specs.Cycles.{row}
use Rattle.walker.specs.Walker.{width}
use Rattle.walker.specs.Tables.{begin_of, states_of, Fit}
use Rattle.enumeration.specs.Enumeration.{Limited}
use Rattle.walker.proofs.BlockStates.{width_bound, states_few}

pub limited_one : (b : ℕ) → Limited (b ^ 0) 1
limited_one b = rw (pow-zero b) (record { exact = λ h. refl; above = λ h. absurd (omega arith); bound = omega arith })

-- one factor more: a number above the limit is kept, another is multiplied
module _ (b : ℕ) (some : 1 ≤ b) (few : b ≤ 2001) (j p : ℕ) (h : Limited (b ^ j) p) where
  pub limited_kept : 1048576 < p → (q : ℕ) → q ≡ p → Limited (b ^ (j + 1)) q
  limited_kept k q e =
      let grows : b ^ j * 1 ≤ b ^ j * b = mul-le-mul_left (b ^ j) some in
      rw (e, add-one j, pow-suc b j) (go (dec_lt 1048576 (b ^ j)) grows)
    where
      go : Dec (1048576 < b ^ j) → b ^ j * 1 ≤ b ^ j * b → Limited (b ^ j * b) p
      go (yes l) grows = record { exact = λ m. absurd (omega arith); above = λ m. k; bound = h.bound }
      go (no l) grows = let e = h.exact (omega arith) in absurd (omega arith)

  pub limited_times : p ≤ 1048576 → (q : ℕ) → q ≡ p * b → Limited (b ^ (j + 1)) q
  limited_times k q e = rw (e, add-one j, pow-suc b j) (go (dec_lt 1048576 (b ^ j)))
    where
      go : Dec (1048576 < b ^ j) → Limited (b ^ j * b) (p * b)
      go (yes l) = let m = h.above l in absurd (omega arith)
      go (no l) =
          let e : p ≡ b ^ j = h.exact (omega arith) in
          record { exact = λ m. ap (λ q. q * b) e; above = λ m. rw e m; bound = mul-le-mul k few }

-- ---- the room for all states
module _ (w : Walker) (L k : ℕ) (fit : Fit w L k) where
  pub candidates_fit : (n : ℕ) → n ≡ width L w.n_free → (k * n ≤ 2 ^ 20 * 2001) × (k * n * w.n_edges ≤ 2 ^ 20 * 2001 * 63)
  candidates_fit n e =
      let narrow : n ≤ 2001 = rw e (width_bound L w.n_free fit.walkable.cycles_fit.truncation) in
      let few : k * n ≤ 2 ^ 20 * 2001 = mul-le-mul fit.walkable.few narrow in
      (few, mul-le-mul few fit.edges)

  pub states_within : length (states_of w L k) ≤ k * width L w.n_free
  unfolding states_of
  states_within = states_few w.free (row w.n_edges w.cycles) L w.n_free (begin_of w) k

  pub states_fit : length (states_of w L k) * w.n_edges ≤ 2 ^ 20 * 2001 * 63
  states_fit =
      let few = candidates_fit (width L w.n_free) refl in
      omega (arith, few.1, mul-le-mul_right w.n_edges states_within)

  -- a list that has room for all candidates is not too short
  pub roomy : (n room : ℕ) → n ≡ width L w.n_free → k * n * w.n_edges ≤ room → false ≡ ltb room (length (states_of w L k) * w.n_edges)
  roomy n room e h =
      let enough : k * width L w.n_free * w.n_edges ≤ room = rw e at h in
      sym (le-ltb room (length (states_of w L k) * w.n_edges) (omega (arith, mul-le-mul_right w.n_edges states_within)))

-- a limited power is above the limit just where the power is
pub limited_test : (number p : ℕ) → Limited number p → ltb 1048576 p ≡ ltb 1048576 number
limited_test number p h = go (dec_lt 1048576 number)
  where
    go : Dec (1048576 < number) → ltb 1048576 p ≡ ltb 1048576 number
    go (yes k) = rw (lt-ltb 1048576 number k, lt-ltb 1048576 p (h.above k))
    go (no k) = rw (h.exact (omega arith))

-- a lower power is no larger
pub power_less : (L n : ℕ) → (2 * L + 1) ^ (n - 1) ≤ (2 * L + 1) ^ n
power_less L n = pow-le-pow_right (omega arith) (omega arith)

-- the candidates of all blocks are all candidates
pub all_candidates : (L n : ℕ) → (2 * L + 1) ^ (n - 1) * width L n ≡ (2 * L + 1) ^ n
unfolding width
all_candidates L zero = let e : (2 * L + 1) ^ 0 * 1 ≡ (2 * L + 1) ^ 0 = omega arith in e
all_candidates L (suc n) = let e : suc n - 1 ≡ n = omega arith in rw e (sym (pow-suc (2 * L + 1) n))
