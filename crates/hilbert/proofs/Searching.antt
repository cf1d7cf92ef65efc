-- The search as the code goes: one value decides, one free edge more, a row of the list.
use Prim.Native.Nat.{ℕ, suc, ◌+◌, ◌*◌, ◌-◌, ◌^◌, ◌<◌, ◌≤◌}
use mathlib.Core.List.{List}
use mathlib.Core.Bool.{Bool, true, false, cond}
use mathlib.Core.Path.{◌≡◌, refl, sym, ap, ◌∙◌}
use mathlib.Core.Logic.{◌≢◌}
use native.Mathlib.Nat.{mul-le-mul, mul-le-mul_right}
use native.Mathlib.Omega.{arith}
use lib.IntN.{ℤ, pos}
use lib.Signed.{lt_z}
use lib.ListN.{get_or, length, take, drop}
use lib.Seq.{get_or-take, length-take-le}
use Rattle.std.proofs.Common.{Bor, Option, Some, None, Iter}
use Rattle.std.specs.declared.iter.Rev.{Rev}
use Rattle.std.specs.Iterator.{Yields}
use Rattle.std.specs.Iterator.Adapters.{rev_source, rev_steps}
use Rattle.std.specs.Slice.Iter.{iter_rest, iter_steps_back}
use Rattle.std.proofs.lemmas.Iterator.Adapters.{YieldsList-from_rev_slice}
use Rattle.std.proofs.lemmas.Iterator.Consumers.{YieldsList-turn, YieldsList-end}
use Rattle.std.proofs.Common.{reverse}
use Rattle.std.proofs.lemmas.List.{get_or-reverse, length-reverse}
use Rattle.std.proofs.lemmas.Grind.{get_or_default_zero}
use Rattle.mathematics.proofs.Integers.{by_parts, not_less_test, test_not_less}
use Rattle.hilbert.specs.Basis.{decided, smaller}
use Rattle.hilbert.specs.Search.{row}

-- ---- a list's first n entries, read from the last on
read_back : (l : List ℕ) (n k x : ℕ) → n ≤ length l → (k < length (reverse (take n l))) × (x ≡ get_or (reverse (take n l)) k x) → (k < n) × (x ≡ get_or l (n - k - 1) 0)
read_back l n k x room there =
    let long : length (take n l) ≡ n = length-take-le n l room in
    let inside : k < n = omega (arith, there.0, length-reverse (take n l), long) in
    let same : length (take n l) - 1 - k ≡ n - k - 1 = omega (arith, long) in
    (inside, there.1 ∙ get_or-reverse (take n l) k x (omega (arith, inside, long)) ∙ rw same (get_or-take n l (n - k - 1) x (omega (arith, inside)) ∙ get_or_default_zero l (n - k - 1) x (omega (arith, inside, room))))

module _ (l : List ℕ) (n : ℕ) (room : n ≤ length l) (read : List (Bor ℕ)) (s t u : Rev (Iter ℕ)) (start : iter_rest (rev_source s) ≡ take n l) (by : Yields (rev_steps iter_steps_back) s read t) {r : Option (Bor ℕ)} (step : rev_steps iter_steps_back t r u) where
  -- another entry
  pub read_next : {x : Bor ℕ} → r ≡ Some x → (length read < n) × (x.now ≡ get_or l (n - length read - 1) 0)
  read_next {x} is = read_back l n (length read) x.now room (YieldsList-turn (YieldsList-from_rev_slice (take n l) start) read t by r u x is step)

  -- none is left
  pub read_end : r ≡ None → n - length read ≡ 0
  read_end is =
      let end = YieldsList-end (YieldsList-from_rev_slice (take n l) start) read t by r u is step in
      omega (arith, end.1, length-reverse (take n l), length-take-le n l room)

-- ---- one value decides
module _ (b : Bool) (x y : ℤ) where
  pub decided_less : lt_z x y ≡ true → decided b x y ≡ true
  unfolding decided
  decided_less h = rw h

  pub decided_equal : x ≡ y → decided b x y ≡ b
  unfolding decided
  decided_equal h = rw (h, not_less_test y y (omega arith))

  decided_apart : x ≢ y → decided b x y ≡ lt_z x y
  unfolding decided
  decided_apart d = go (lt_z x y) (lt_z y x) refl refl
    where
      go : (p q : Bool) → lt_z x y ≡ p → lt_z y x ≡ q → cond p true (cond q false b) ≡ p
      go true q e f = refl
      go false true e f = refl
      go false false e f = absurd (d (by_parts x y (omega (arith, test_not_less x y e, test_not_less y x f))))

-- ---- the last of the first j free edges
module _ (free : List ℕ) (s t : List ℤ) (j : ℕ) (some : 0 < j) (e : ℕ) (is : e ≡ get_or free (j - 1) 0) where
  last_decides : smaller free s t j ≡ decided (smaller free s t (j - 1)) (get_or s e (pos 0)) (get_or t e (pos 0))
  unfolding smaller
  last_decides = let one_less : j ≡ suc (j - 1) = omega arith in ap (smaller free s t) one_less ∙ rw (is)

  -- where the values differ, the smaller decides; where they are equal, it is decided below
  pub smaller_differs : get_or s e (pos 0) ≢ get_or t e (pos 0) → lt_z (get_or s e (pos 0)) (get_or t e (pos 0)) ≡ smaller free s t j
  smaller_differs d = sym (last_decides ∙ decided_apart (smaller free s t (j - 1)) (get_or s e (pos 0)) (get_or t e (pos 0)) d)

  pub smaller_equals : get_or s e (pos 0) ≡ get_or t e (pos 0) → smaller free s t j ≡ smaller free s t (j - 1)
  smaller_equals same = last_decides ∙ decided_equal (smaller free s t (j - 1)) (get_or s e (pos 0)) (get_or t e (pos 0)) same

-- ---- a row of the list
-- where row i of n lies in a list with a given room, and where it starts
pub row_room : (n m i room : ℕ) → n ≤ 2 ^ 20 → m ≤ 63 → i < n → n * m ≤ room → (i * m + m ≤ room) × (i * m ≤ 2 ^ 20 * 63)
row_room n m i room few small inside long =
    let below : i ≤ 2 ^ 20 = omega arith in
    (omega (arith, long, mul-le-mul_right m inside), mul-le-mul below small)

-- the entries from a row's start to its end
pub row_part : (list : List ℤ) (m i : ℕ) → take (i * m + m - i * m) (drop (i * m) list) ≡ row m list i
row_part list m i = let e : i * m + m - i * m ≡ m = omega arith in rw e
