-- The states of the first blocks, one block more.
use Prim.Native.Nat.{ℕ, zero, suc, ◌+◌, ◌-◌, ◌*◌, ◌^◌, ◌≤◌}
use mathlib.Core.List.{List, [], ◌++◌, append-nil, append_assoc, flat_map}
use mathlib.Core.Path.{◌≡◌, refl, sym}
use native.Mathlib.Omega.{arith}
use native.Mathlib.Numerals.{add-one}
use native.Mathlib.Nat.{add-zero, add-suc, mul-le-mul}
use lib.IntN.{ℤ}
use lib.ListN.{length, length-append}
use Rattle.mathematics.specs.Counting.{below, applied}
use Rattle.mathematics.proofs.Flat.{flat_map_last}
use Rattle.cycles.specs.Cycles.{row}
use Rattle.walker.specs.Steps.{Walkable}
use Rattle.walker.specs.Walker.{stepped, first_within, end_within, block, width, walked, walked_states}
use Rattle.walker.proofs.Interval.{stop_bound}
use Rattle.walker.proofs.BlockRows.{rows_length}

pub width_bound : (L n : ℕ) → L ≤ 1000 → width L n ≤ 2001
unfolding width
width_bound L zero h = omega arith
width_bound L (suc n) h = omega arith

pub width_none : (L n : ℕ) → n ≡ 0 → 1 ≡ width L n
unfolding width
width_none L n h = rw h

pub width_some : (L n : ℕ) → (n ≡ 0 → ⊥) → 2 * L + 1 ≡ width L n
unfolding width
width_some L zero h = absurd (h refl)
width_some L (suc n) h = refl

-- a block has no more states than candidates
pub block_few : (L n : ℕ) (s z : List ℤ) → length (block L n s z) ≤ n
unfolding block
block_few L n s z = rw (rows_length s z (first_within L n s z (length s)) (end_within L n s z (length s))) (omega (arith, stop_bound L n s z (length s)))

module _ (free : List ℕ) (cycle : ℕ → List ℤ) (L n : ℕ) (s : List ℤ) where
  abbrev at : ℕ → List ℤ
  at k = walked free cycle L n s k

  abbrev states : ℕ → List (List ℤ)
  states k = walked_states free cycle L n s k

  pub walked_none : walked free cycle L n s 0 ≡ s
  unfolding walked applied
  walked_none = refl

  pub states_none : states 0 ≡ []
  unfolding walked_states below flat_map
  states_none = refl

  states_suc : (k : ℕ) → states (suc k) ≡ states k ++ block L (width L n) (at k) (cycle 0)
  unfolding walked_states below
  states_suc k = flat_map_last (λ i. block L (width L n) (at i) (cycle 0)) (below k) k

  pub states_next : (k : ℕ) → states (k + 1) ≡ states k ++ block L (width L n) (at k) (cycle 0)
  states_next k = rw (add-one k) (states_suc k)

  pub states_few : (k : ℕ) → length (states k) ≤ k * width L n
  states_few zero = rw states_none (omega arith)
  states_few (suc k) = rw (states_suc k, length-append (states k) (block L (width L n) (at k) (cycle 0))) (omega (arith, states_few k, block_few L (width L n) (at k) (cycle 0)))

-- ---- some blocks, then the others
module _ (free : List ℕ) (cycle : ℕ → List ℤ) (L n : ℕ) where
  walked_suc : (s : List ℤ) (k : ℕ) → walked free cycle L n s (suc k) ≡ stepped free cycle L (n - 1) 1 (walked free cycle L n s k)
  unfolding walked applied
  walked_suc s k = refl

  pub walked_next : (s : List ℤ) (k : ℕ) → walked free cycle L n s (k + 1) ≡ stepped free cycle L (n - 1) 1 (walked free cycle L n s k)
  walked_next s k = rw (add-one k) (walked_suc s k)

  pub walked_on : (s : List ℤ) (a b : ℕ) → walked free cycle L n s (a + b) ≡ walked free cycle L n (walked free cycle L n s a) b
  walked_on s a zero = rw (add-zero a) (sym (walked_none free cycle L n (walked free cycle L n s a)))
  walked_on s a (suc b) = rw (add-suc a b, walked_suc s (a + b), walked_on s a b) (sym (walked_suc (walked free cycle L n s a) b))

  pub states_on : (s : List ℤ) (a b : ℕ) → walked_states free cycle L n s (a + b) ≡ walked_states free cycle L n s a ++ walked_states free cycle L n (walked free cycle L n s a) b
  states_on s a zero = rw (add-zero a, states_none free cycle L n (walked free cycle L n s a)) (sym (append-nil (walked_states free cycle L n s a)))
  states_on s a (suc b) =
      let t = walked free cycle L n s a in
      rw (add-suc a b, states_suc free cycle L n s (a + b), states_on s a b, walked_on s a b, states_suc free cycle L n t b)
      (append_assoc (walked_states free cycle L n s a) (walked_states free cycle L n t b) _)

-- all states have a number
pub states_counted : (free : List ℕ) (cycles : List ℤ) (L n : ℕ) (s : List ℤ) (k : ℕ) → Walkable free cycles L n s k → length (walked_states free (row (length s) cycles) L n s k) ≤ 2 ^ 40
states_counted free cycles L n s k walkable =
    omega (arith, states_few free (row (length s) cycles) L n s k, mul-le-mul walkable.few (width_bound L n walkable.cycles_fit.truncation))
