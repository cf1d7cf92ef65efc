-- Lists read out of bytes, one entry a turn.
use Prim.Native.Nat.{ℕ, ◌+◌, ◌*◌, ◌/◌, ◌<◌, ◌≤◌, min}
use mathlib.Core.List.{List, [], ◌++◌}
use mathlib.Core.Path.{◌≡◌, refl, sym, ap, ◌∙◌}
use native.Mathlib.Omega.{arith}
use Rattle.std.proofs.lemmas.List.{append-nil}
use lib.ListN.{get_or, length, take, drop, set, length-map, length-set}
use Rattle.std.proofs.Math.ListN.{drop_of_length-le}
use lib.Seq.{take_all, take_at, length-take-le}
use Rattle.mathematics.specs.Counting.{below}
use Rattle.mathematics.proofs.Below.{length_below, map_below_at}
use Rattle.mathematics.proofs.Front.{store, take_next}
use Rattle.recorded.specs.Bytes.{number_at, numbers_in, ReadInto}

-- the first i of n entries have been read
pub record Reading {A : Type 0} (l old new : List A) (n i : ℕ) : Type 0 where
  pub within : i ≤ n
  pub few : n ≡ min (length l) (length old)
  pub long : length new ≡ length old
  pub list : new ≡ take i l ++ drop i old

module _ {A : Type 0} (w : ℕ) (taken : ℕ → A) (b : List ℕ) where
  pub length_numbers : length (numbers_in w taken b) ≡ length b / w
  unfolding numbers_in
  length_numbers = length-map (below (length b / w)) (λ i. taken (number_at w b (w * i))) ∙ length_below (length b / w)

  pub read_none : (old : List A) {n : ℕ} → n ≡ min (length b / w) (length old) → Reading (numbers_in w taken b) old old n 0
  read_none old few =
      record {
        within = omega arith;
        few = few ∙ ap (λ k. min k (length old)) (sym length_numbers);
        long = refl;
        list = refl;
      }

  pub read_next : (d : A) {old new : List A} {n i : ℕ} → Reading (numbers_in w taken b) old new n i → i < n → {x : A} → x ≡ taken (number_at w b (w * i)) → Reading (numbers_in w taken b) old (set new i x) n (i + 1)
  unfolding numbers_in
  read_next d {old} {new} {n} {i} h more {x} is =
      let l = numbers_in w taken b in
      let size = length_numbers in
      let few = h.few in
      let here : i < length b / w = omega arith in
      let inside : i < length l = omega arith in
      let room : i < length old = omega arith in
      let entry : x ≡ get_or l i d = is ∙ sym (map_below_at (λ j. taken (number_at w b (w * j))) (length b / w) i d here) in
      record {
        within = omega arith;
        few = few;
        long = length-set new i x ∙ h.long;
        list =
            rw (h.list, entry)
            (store (take i l) old i (get_or l i d) d (length-take-le i l (omega arith)) room ∙ ap (λ k. k ++ drop (i + 1) old) (sym (take_next l i d inside)));
      }

-- all of them have, which went to the first n of a longer list
pub read_part : {A : Type 0} {l old part : List A} {n i : ℕ} → n ≡ min (length l) (length old) → Reading l (take n old) part n i → n ≤ i → ReadInto l old (part ++ drop n old) n
read_part {A} {l} {old} {part} {n} {i} few h end =
    let last : i ≡ n = omega (arith, h.within) in
    let size : length (take n l) ≡ n = length-take-le n l (omega arith) in
    let past : drop n (take n old) ≡ [] = drop_of_length-le (take n old) (omega (arith, length-take-le n old (omega arith))) in
    record { count = few; list = rw (h.list, last, past, append-nil, size) }

-- what was read of a list that finds room is the list
pub read_whole : {A : Type 0} {l old new : List A} {r : ℕ} → ReadInto l old new r → length l ≤ length old → take r new ≡ l
read_whole {A} {l} {old} {new} {r} h room =
    let few = h.count in
    let all : r ≡ length l = omega arith in
    rw (h.list, take_all r l (omega arith), all) (take_at l (drop (length l) old) (length l) refl)
