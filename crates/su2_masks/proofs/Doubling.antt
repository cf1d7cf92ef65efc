-- The list of masks as it is written: one entry more, and doubled once more.
use Prim.Native.Nat.{ℕ, zero, suc, ◌+◌, ◌*◌, ◌^◌, ◌<◌, ◌≤◌}
use mathlib.Core.List.{List, [], ◌∷◌, ◌++◌, map}
use mathlib.Core.Path.{◌≡◌, refl, sym, ap, ap₂, ◌∙◌}
use Rattle.std.proofs.Common.{append_assoc}
use native.Mathlib.Nat.{pow-suc, le_trans}
use lib.Pow.{pow_mono}
use native.Mathlib.Numerals.{add-one}
use native.Mathlib.Omega.{arith}
use lib.Bits.{bit_xor}
use lib.ListN.{get_or, length, take, drop, set}
use lib.Seq.{take_all, take_at, drop-append-add, drop-drop}
use Rattle.su2_even_sets.specs.Loops.{loop_sums}
use Rattle.su2_even_sets.proofs.Spans.{span_length, spanned_next}

-- ---- the first entries, each with a loop added, behind them
module _ (cycle : ℕ) where
  abbrev turned : List ℕ → List ℕ
  turned = map (λ x. bit_xor x cycle)

  pub turned_more : (first rest : List ℕ) (i : ℕ) → i < length first → length first ≤ length rest
      → set (turned (take i first) ++ drop i rest) i (bit_xor (get_or first i 0) cycle) ≡ turned (take (suc i) first) ++ drop (suc i) rest
  turned_more [] rest i h k = absurd (omega arith)
  turned_more (x ∷ first) [] i h k = absurd (omega arith)
  turned_more (x ∷ first) (y ∷ rest) zero h k = refl
  turned_more (x ∷ first) (y ∷ rest) (suc i) h k = ap (λ (l : List ℕ). bit_xor x cycle ∷ l) (turned_more first rest i (omega arith) (omega arith))

  pub turned_all : (old first behind rest : List ℕ) (count i : ℕ) → length first ≡ count → i ≡ count → first ≡ take count old → behind ≡ drop count old
      → rest ≡ turned (take i first) ++ drop i behind → first ++ rest ≡ take count old ++ turned (take count old) ++ drop (count + count) old
  turned_all old first behind rest count i long past is after done =
      let front : take i first ≡ take count old = take_all i first (omega arith) ∙ is in
      let end : drop i behind ≡ drop (count + count) old = rw (past, after) (drop-drop count count old) in
      ap₂ (λ (a b : List ℕ). a ++ b) is (done ∙ ap₂ (λ (a b : List ℕ). turned a ++ b) front end) ∙ sym (append_assoc (take count old) (turned (take count old)) (drop (count + count) old))

-- ---- all sums of the loops
pub masks_none : (loops old : List ℕ) → 1 ≤ length old → set old 0 0 ≡ loop_sums loops 0 ++ drop 1 (set old 0 0)
unfolding loop_sums
masks_none loops [] h = absurd (omega arith)
masks_none loops (x ∷ old) h = refl

module _ (loops old : List ℕ) (j : ℕ) (room : 2 ^ (j + 1) ≤ length old) where
  abbrev so_far : List ℕ
  so_far = loop_sums loops j ++ drop (2 ^ j) old

  twice : 2 ^ (j + 1) ≡ 2 ^ j + 2 ^ j
  twice = rw (add-one j) (omega (arith, pow-suc 2 j))

  front : take (2 ^ j) so_far ≡ loop_sums loops j
  front = take_at (loop_sums loops j) (drop (2 ^ j) old) (2 ^ j) (span_length loops j)

  behind : drop (2 ^ j + 2 ^ j) so_far ≡ drop (2 ^ (j + 1)) old
  behind =
      ap (λ (k : ℕ). drop (k + 2 ^ j) so_far) (sym (span_length loops j)) ∙ drop-append-add (loop_sums loops j) (drop (2 ^ j) old) (2 ^ j)
      ∙ drop-drop (2 ^ j) (2 ^ j) old ∙ ap (λ (k : ℕ). drop k old) (sym twice)

  pub masks_more : (cycle : ℕ) → cycle ≡ get_or loops j 0 → take (2 ^ j) so_far ++ map (λ x. bit_xor x cycle) (take (2 ^ j) so_far) ++ drop (2 ^ j + 2 ^ j) so_far
      ≡ loop_sums loops (j + 1) ++ drop (2 ^ (j + 1)) old
  masks_more cycle is = rw (front, behind, spanned_next loops j, is)

-- there is room for twice as many
pub room_twice : (n j room : ℕ) → j < n → 2 ^ n ≤ room → 2 ^ (j + 1) ≤ room
room_twice n j room h k = let few : j + 1 ≤ n = omega arith in le_trans (pow_mono few) k

pub unit_twice : (unit j : ℕ) → unit ≡ 2 ^ j → unit + unit ≡ 2 ^ (j + 1)
unit_twice unit j e = rw (e, add-one j) (omega (arith, pow-suc 2 j))

-- a bit of one unit
pub one_unit : (bit unit : ℕ) → bit < 2 → bit * unit ≤ unit
one_unit zero unit h = omega arith
one_unit (suc zero) unit h = omega arith
one_unit (suc (suc bit)) unit h = absurd (omega arith)
