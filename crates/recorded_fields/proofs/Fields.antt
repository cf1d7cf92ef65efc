-- The fields of a case stand one behind the other, within the list where the case ends there.
use Prim.Native.Nat.{ℕ, zero, suc, ◌+◌, ◌-◌, ◌<◌, ◌≤◌}
use mathlib.Core.List.{List, [], ◌∷◌}
use mathlib.Core.Path.{◌≡◌, refl, sym}
use mathlib.Core.Bool.{true, ◌&&◌}
use native.Mathlib.Omega.{arith}
use native.Mathlib.Numerals.{add-one}
use borrow.Author.Tests.{leb-true}
use lib.Dec.{leb}
use lib.ListN.{length, take, drop, get_or, length-take, length-drop}
use lib.Seq.{length-take-le}
use Rattle.mathematics.proofs.Tests.{and_parts}
use Rattle.std.specs.Int.{from_le_bytes, w16}
use Rattle.sheet.specs.Sheet.{word}
use Rattle.recorded_fields.specs.Layout.{size, place, case_at, well_formed, Whole}

-- the number of two bytes
pub two_bytes : (list : List ℕ) (at : ℕ) → from_le_bytes w16 (get_or list at 0 ∷ get_or list (at + 1) 0 ∷ []) ≡ word list at
unfolding word
two_bytes list at = omega arith

pub place_next : (list : List ℕ) (at k : ℕ) → place list at (k + 1) ≡ place list at k + 2 + size list (place list at k)
unfolding place
place_next list at k = rw (add-one k)

pub place_first : (list : List ℕ) (at : ℕ) → place list at 0 ≡ at + 1
unfolding place
place_first list at = refl

-- a field begins further on than the case
pub later : (list : List ℕ) (at k : ℕ) → at < place list at k
unfolding place
later list at zero = omega arith
later list at (suc k) = omega (arith, later list at k)

-- some fields further on
rises : (list : List ℕ) (at k n : ℕ) → place list at k ≤ place list at (k + n)
rises list at k zero = let e : k + 0 ≡ k = omega arith in rw e (omega arith)
rises list at k (suc n) =
    let e : k + suc n ≡ k + n + 1 = omega arith in
    rw (e, place_next list at (k + n)) (omega (arith, rises list at k n))

-- a field ends within the list where its case does
pub field_inside : (list : List ℕ) (at k : ℕ) → Whole list at → k < 15 → place list at k + 2 + size list (place list at k) ≤ length list
field_inside list at k whole few =
    let e : k + 1 + (14 - k) ≡ 15 = omega arith in
    let r : place list at (k + 1) ≤ place list at 15 = rw e at (rises list at (k + 1) (14 - k)) in
    omega (arith, r, place_next list at k)

-- what follows the two bytes of a field's length has room for its bytes
pub field_room : (list : List ℕ) (at k begin bytes : ℕ) → begin ≡ place list at k → bytes ≡ size list begin → Whole list at → k < 15 → bytes ≡ length (take bytes (take (length list - (begin + 2)) (drop (begin + 2) list)))
field_room list at k begin bytes is long whole few =
    let rest = drop (begin + 2) list in
    let ends : begin + 2 + size list begin ≤ length list = rw is (field_inside list at k whole few) in
    let all = length-take (length list - (begin + 2)) rest in
    sym (length-take-le bytes (take (length list - (begin + 2)) rest) (omega (arith, all, length-drop (begin + 2) list, ends, long)))

-- the case ends further on than it begins
pub case_inside : (list : List ℕ) (at : ℕ) → Whole list at → at < length list
case_inside list at whole = omega (arith, later list at 15)

pub further : (list : List ℕ) (at : ℕ) → at < (case_at list at).next
unfolding case_at
further list at = later list at 15

-- the place behind a case
pub next_is : (list : List ℕ) (at : ℕ) → (case_at list at).next ≡ place list at 15
unfolding case_at
next_is list at = refl

-- what the test of a case says
pub whole_of : (list : List ℕ) (at : ℕ) → well_formed (length list) (case_at list at) ≡ true → Whole list at
unfolding well_formed case_at
whole_of list at h =
    let p = and_parts (leb 1 (get_or list at 0) && leb (get_or list at 0) 26) (leb (place list at 15) (length list)) h in
    leb-true (place list at 15) (length list) p.1
