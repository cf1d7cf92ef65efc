-- Lists held against bytes, one entry a turn.
use Prim.Native.Nat.{ℕ, ◌+◌, ◌*◌, ◌/◌, ◌%◌, ◌<◌, ◌≤◌}
use mathlib.Core.List.{List}
use mathlib.Core.Bool.{Bool, true, false, ◌&&◌}
use mathlib.Core.Path.{◌≡◌, refl}
use native.Mathlib.Omega.{arith}
use native.Mathlib.Numerals.{add-one}
use borrow.Author.Tests.{leb-true}
use lib.Dec.{eqb}
use lib.ListN.{get_or, length}
use Rattle.mathematics.specs.Tests.{every}
use Rattle.mathematics.proofs.Tests.{and_parts}
use Rattle.recorded.specs.Bytes.{number_at, is_whole, holds}

module _ {A : Type 0} (w : ℕ) (is : A → ℕ → Bool) (d : A) (l : List A) (b : List ℕ) where
  -- the first i entries have been compared
  pub record Holding (so_far : Bool) (i : ℕ) : Type 0 where
    pub whole : is_whole w (length b) (length l) ≡ true
    pub room : length b / w ≤ length l
    pub within : i ≤ length b / w
    pub told : so_far ≡ every (λ j. is (get_or l j d) (number_at w b (w * j))) i

  -- the bytes are no whole numbers, or too many
  pub hold_not : is_whole w (length b) (length l) ≡ false → false ≡ holds w is d l b
  unfolding holds
  hold_not h = rw h

  pub hold_none : is_whole w (length b) (length l) ≡ true → Holding true 0
  unfolding is_whole every
  hold_none h = record { whole = h; room = leb-true _ _ (and_parts (eqb (length b % w) 0) _ h).1; within = omega arith; told = refl }

  pub hold_next : {so_far : Bool} {i : ℕ} → Holding so_far i → i < length b / w → {same : Bool} → same ≡ is (get_or l i d) (number_at w b (w * i)) → Holding (so_far && same) (i + 1)
  unfolding every
  hold_next {so_far} {i} h more e = record { whole = h.whole; room = h.room; within = omega arith; told = rw (add-one i, h.told, e) }

  pub hold_all : {so_far : Bool} {i : ℕ} → Holding so_far i → length b / w ≤ i → so_far ≡ holds w is d l b
  unfolding holds
  hold_all {so_far} {i} h end =
      let last : i ≡ length b / w = omega (arith, h.within) in
      rw (h.told, last, h.whole)
