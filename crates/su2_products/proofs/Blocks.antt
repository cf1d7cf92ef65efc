-- A block that is filled entry by entry, and blocks that follow each other.
use Prim.Native.Nat.{ℕ, zero, suc, ◌+◌, ◌-◌, ◌≤◌, ◌<◌}
use mathlib.Core.List.{List, [], ◌∷◌, ◌++◌, map, map-append, append-nil, append_assoc}
use mathlib.Core.Path.{◌≡◌, refl, sym, ap, ap₂, ◌∙◌}
use native.Mathlib.Omega.{arith}
use lib.Ieee.{Float, nan}
use lib.ListN.{length, get_or, take, drop, set, length-map}
use lib.Seq.{take_at, drop_at}
use borrow.Rule.Slice.PartMut.{put_mid, Post-is, mid_len}
use Rattle.mathematics.specs.Counting.{below}
use Rattle.mathematics.specs.Writing.{front}
use Rattle.mathematics.proofs.Below.{length_below, map_below_at}
use Rattle.mathematics.proofs.Front.{front_read, front_more, front_end}

-- ---- one entry a turn: the first i are new, the others old
module _ (f : ℕ → Float) (old : List Float) where
  unfoldable pub filled : List Float
  filled = map f (below (length old))

  length_filled : length filled ≡ length old
  unfolding filled
  length_filled = length-map (below (length old)) f ∙ length_below (length old)

  unfoldable pub part_filled : ℕ → List Float
  part_filled i = take i filled ++ drop i old

  pub none_filled : old ≡ part_filled 0
  unfolding part_filled
  none_filled = refl

  -- an entry that is not new yet
  pub not_filled : (block : List Float) (i : ℕ) → i < length old → block ≡ part_filled i → get_or block i nan ≡ get_or old i nan
  unfolding part_filled
  not_filled block i h so_far = front_read old filled block i nan length_filled so_far h

  pub one_filled : (block : List Float) (i : ℕ) (x : Float) → i < length old → block ≡ part_filled i → x ≡ f i → set block i x ≡ part_filled (i + 1)
  unfolding part_filled filled
  one_filled block i x h so_far is = front_more old filled block i nan length_filled so_far x h (is ∙ sym (map_below_at f (length old) i nan h))

  pub all_filled : (block : List Float) (i : ℕ) → length old ≤ i → block ≡ part_filled i → block ≡ map f (below (length old))
  unfolding part_filled filled
  all_filled block i h so_far = front_end old filled block i nan length_filled so_far h

-- ---- one block a turn
-- the first numbers, and those of a block behind them
below_block : (f : ℕ → Float) (from m : ℕ) → map f (below from) ++ map (λ i. f (from + i)) (below m) ≡ map f (below (from + m))
unfolding below
below_block f from zero = append-nil (map f (below from)) ∙ ap (λ (n : ℕ). map f (below n)) (let e : from ≡ from + 0 = omega arith in e)
below_block f from (suc m) =
    let e : from + suc m ≡ suc (from + m) = omega arith in
    ap (λ l. map f (below from) ++ l) (map-append (λ i. f (from + i)) (below m) (m ∷ []))
    ∙ sym (append_assoc (map f (below from)) (map (λ i. f (from + i)) (below m)) (f (from + m) ∷ []))
    ∙ ap (λ l. l ++ (f (from + m) ∷ [])) (below_block f from m)
    ∙ sym (map-append f (below (from + m)) ((from + m) ∷ []))
    ∙ ap (λ (n : ℕ). map f (below n)) (sym e)

-- the product at the first states, and then what stood there
module _ (f : ℕ → Float) (old : List Float) where
  unfoldable pub begun : ℕ → List Float
  begun from = map f (below from) ++ drop from old

  pub none_begun : old ≡ begun 0
  unfolding begun below
  none_begun = refl

  length_begun : (from : ℕ) → length (map f (below from)) ≡ from
  length_begun from = length-map (below from) f ∙ length_below from

  -- a block from one place to another
  pub next_begun : (from to : ℕ) (result block : List Float) → from ≤ to → to ≤ length result → result ≡ begun from
      → block ≡ map (λ i. f (from + i)) (below (length (take (to - from) (drop from result)))) → put_mid from (to - from) result block ≡ begun to
  unfolding begun
  next_begun from to result block rises room so_far is =
      let head : take from result ≡ map f (below from) = rw so_far (take_at (map f (below from)) (drop from old) from (length_begun from)) in
      let tail : drop from result ≡ drop from old = rw so_far (drop_at (map f (below from)) (drop from old) from (length_begun from)) in
      let whole : from + (to - from) ≡ to = omega arith in
      let middle : block ≡ map (λ i. f (from + i)) (below (to - from)) = is ∙ ap (λ (n : ℕ). map (λ i. f (from + i)) (below n)) (mid_len from to result room) in
      let beyond : drop (to - from) (drop from result) ≡ drop to old = ap (drop (to - from)) tail ∙ Post-is from to old rises in
      ap (λ l. l ++ (block ++ drop (to - from) (drop from result))) head
      ∙ ap₂ (λ l m. map f (below from) ++ (l ++ m)) middle beyond
      ∙ sym (append_assoc (map f (below from)) (map (λ i. f (from + i)) (below (to - from))) (drop to old))
      ∙ ap (λ l. l ++ drop to old) (below_block f from (to - from) ∙ ap (λ (n : ℕ). map f (below n)) whole)

  pub all_begun : (n : ℕ) → begun n ≡ front (map f (below n)) old
  unfolding begun
  all_begun n = ap (λ (k : ℕ). map f (below n) ++ drop k old) (sym (length_begun n))
