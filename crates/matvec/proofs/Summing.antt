-- One turn of the loop over a row and of that over all rows.
use Prim.Native.Nat.{ℕ, ◌+◌, ◌-◌, ◌≤◌, ◌<◌}
use mathlib.Core.List.{List, [], ◌∷◌, ◌++◌, map, map-append}
use mathlib.Core.Path.{◌≡◌, sym, ap, ◌∙◌}
use native.Mathlib.Numerals.{add-one}
use native.Mathlib.Omega.{arith}
use lib.Ieee.{Float, binary64, nan, add, mul}
use lib.ListN.{length, get_or, drop, set, take, length-map, length-drop}
use lib.Seq.{slice, slice_empty, slice-cons, get_or-drop, get_or-take, length-take-le}
use Rattle.mathematics.specs.Counting.{below}
use Rattle.mathematics.specs.Writing.{front}
use Rattle.mathematics.proofs.Below.{length_below}
use Rattle.mathematics.proofs.Front.{store}
use Rattle.rows.specs.Entries.{pairs}
use Rattle.rows.proofs.Pairs.{pairs_length, pairs_at}
use Rattle.matvec.specs.Product.{row_entries, with_products, row_sum, product}

-- a part of a list, as a slice of it is lent
abbrev pub part : {A : Type 0} → List A → ℕ → ℕ → List A
part l from to = take (to - from) (drop from l)

pub part_long : {A : Type 0} (l : List A) (from to : ℕ) → to ≤ length l → length (part l from to) ≡ to - from
part_long l from to room = length-take-le (to - from) (drop from l) (omega (arith, length-drop from l))

pub part_at : {A : Type 0} (l : List A) (from to t : ℕ) (d : A) → from + t < to → get_or (part l from to) t d ≡ get_or l (from + t) d
part_at l from to t d h = get_or-take (to - from) (drop from l) t d (omega arith) ∙ get_or-drop from l t d

-- one entry more
pub sum_turn : (columns : List ℕ) (values vector : List Float) (sum : Float) (k to : ℕ) → k < to → to ≤ length columns → length columns ≡ length values
    → with_products vector (add binary64 sum (mul binary64 (get_or values k nan) (get_or vector (get_or columns k 0) nan))) (slice (k + 1) to (pairs columns values)) ≡ with_products vector sum (slice k to (pairs columns values))
unfolding with_products
sum_turn columns values vector sum k to h room same =
    let fits : to ≤ length (pairs columns values) = omega (arith, pairs_length columns values same) in
    rw (slice-cons k to (pairs columns values) (0, nan) h fits, pairs_at columns values k same, add-one k)

pub sum_end : (l : List (ℕ × Float)) (vector : List Float) (sum : Float) (k to : ℕ) → k ≡ to → with_products vector sum (slice k to l) ≡ sum
unfolding with_products
sum_end l vector sum k to e = rw (e, slice_empty to l)

module _ (starts columns : List ℕ) (values vector : List Float) where
  -- the first n sums
  unfoldable pub sums : ℕ → List Float
  sums n = map (λ i. row_sum vector (row_entries starts columns values i)) (below n)

  length_sums : (n : ℕ) → length (sums n) ≡ n
  unfolding sums
  length_sums n = length-map (below n) (λ i. row_sum vector (row_entries starts columns values i)) ∙ length_below n

  -- one sum more, which is stored at i
  pub store_turn : (old result : List Float) (i : ℕ) (x : Float) → i < length old → result ≡ sums i ++ drop i old
      → x ≡ row_sum vector (slice (get_or starts i 0) (get_or starts (i + 1) 0) (pairs columns values)) → set result i x ≡ sums (i + 1) ++ drop (i + 1) old
  unfolding sums row_entries below
  store_turn old result i x room so_far is =
      let more : sums (i + 1) ≡ sums i ++ (row_sum vector (row_entries starts columns values i) ∷ []) = ap sums (add-one i) ∙ map-append (λ i. row_sum vector (row_entries starts columns values i)) (below i) (i ∷ []) in
      rw (so_far, is, more) (store (sums i) old i (row_sum vector (row_entries starts columns values i)) nan (length_sums i) room)

  pub all_stored : (old : List Float) → sums (length vector) ++ drop (length vector) old ≡ front (product starts columns values vector) old
  unfolding sums product
  all_stored old = ap (λ n. sums (length vector) ++ drop n old) (sym (length_sums (length vector)))
