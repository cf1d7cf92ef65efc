-- The tests and numbers by which a block is narrowed, as the code finds them.
use Prim.Native.Nat.{ℕ, zero, suc, ◌+◌, ◌-◌, ◌^◌, ◌≤◌, min, max}
use mathlib.Core.List.{List}
use mathlib.Core.Bool.{Bool, true, false}
use mathlib.Core.Path.{◌≡◌, refl, sym, ◌∙◌, ap}
use native.Mathlib.Omega.{arith}
use native.Mathlib.Numerals.{add-one}
use native.Mathlib.Nat.{add-zero, add-suc}
use lib.Dec.{T, leb}
use lib.IntN.{ℤ, pos, negsuc, neg_ℤ, nat_abs, ◌-ℤ◌, ◌*ℤ◌}
use lib.Signed.{lt_z, non_neg}
use lib.ListN.{get_or, length}
use mir.Syntax.{w8, w32, w64}
use mir.Val.{SFits, Fits, to_z, of_z}
use Rattle.mathematics.specs.Integers.{equal}
use Rattle.mathematics.proofs.Integers.{negative, parts, one_part, the, ◌⊟◌, test_less}
use Rattle.mathematics.proofs.Signed.{size_difference, size_fits, small_back}
use Rattle.walker.specs.declared.blocks.Span.{Span}
use Rattle.walker.specs.Walker.{excess, entry_start, entry_stop, first_within, end_within, block}
use Rattle.walker.specs.Steps.{Small}
use Rattle.walker.specs.Blocks.{Narrowed, SpanTo, SpanOfBlock}
use Rattle.walker.proofs.Adding.{sign_back}
use Rattle.walker.proofs.Interval.{stop_bound}
use Rattle.walker.proofs.BlockRows.{rows_none}

-- ---- how far one number is above another
-- a number as the machine reads it
abbrev read : ℤ → ℤ
read x = to_z w32 (of_z w32 x)

not_negative : (z : ℤ) → negative z ≡ 0 → T (non_neg z)
unfolding negative
not_negative (pos n) h = tt
not_negative (negsuc n) h = absurd (omega arith)

module _ (a b : ℤ) (small : nat_abs a ≤ 2 ^ 24) (small' : nat_abs b ≤ 2 ^ 24) where
  pub difference_back : read (a -ℤ b) ≡ a -ℤ b
  difference_back = small_back (a -ℤ b) (omega (arith, size_difference a b))

  difference_read : read a -ℤ read b ≡ a -ℤ b
  difference_read = rw (small_back a (omega arith), small_back b (omega arith))

  test_read : {t : Bool} → lt_z (read b) (read a) ≡ t → lt_z b a ≡ t
  test_read h = rw (small_back a (omega arith), small_back b (omega arith)) at h

  pub difference_fits : SFits w32 (read a -ℤ read b)
  difference_fits = rw difference_read (size_fits w32 (a -ℤ b) (omega (arith, size_difference a b)))

  pub difference_casts : lt_z (read b) (read a) ≡ true → T (non_neg (read (read a -ℤ read b))) × Fits w64 (nat_abs (read (read a -ℤ read b)))
  difference_casts h =
      rw (difference_read, difference_back) (
        not_negative (a -ℤ b) (omega (arith, test_less b a (test_read h), one_part (a -ℤ b), parts (the a ⊟ the b))),
        record { fits = omega (arith, size_difference a b) },
      )

  pub excess_some : lt_z (read b) (read a) ≡ true → nat_abs (read (read a -ℤ read b)) ≡ excess a b
  unfolding excess
  excess_some h = rw (difference_read, difference_back, test_read h)

  pub excess_none : lt_z (read b) (read a) ≡ false → 0 ≡ excess a b
  unfolding excess
  excess_none h = rw (test_read h)

-- ---- a span narrowed by one entry
module _ (L n : ℕ) (x s : ℤ) (span : Span) (bound : span.to ≤ n) where
  pub narrow_inside : equal s (pos 0) ≡ true → leb (nat_abs x) L ≡ true → Narrowed L n x s span span
  unfolding entry_start entry_stop
  narrow_inside z h = record { from = rw (z, h) (omega arith); to = rw z (omega arith) }

  pub narrow_outside : equal s (pos 0) ≡ true → leb (nat_abs x) L ≡ false → (a : ℕ) → a ≡ max span.from n → Narrowed L n x s span (record { from = a; to = span.to })
  unfolding entry_start entry_stop
  narrow_outside z h a e = record { from = rw (z, h) e; to = rw z (omega arith) }

  pub narrow_signed : equal s (pos 0) ≡ false → (a b : ℕ) → a ≡ max span.from (excess (neg_ℤ (pos L)) (s *ℤ x)) → b ≡ min span.to (excess (pos (L + 1)) (s *ℤ x))
      → Narrowed L n x s span (record { from = a; to = b })
  unfolding entry_start entry_stop
  narrow_signed z a b e f = record { from = rw z e; to = rw (z, ← (add-one L)) f }

-- ---- entry after entry
-- an entry and its sign, as the machine has them
pub entries_back : (s z : List ℤ) → Small (2 ^ 20) s → Small 1 z → (k : ℕ) (x y : ℤ) → x ≡ get_or s k (pos 0) → y ≡ get_or z k (pos 0)
    → (to_z w32 (of_z w32 x) ≡ get_or s k (pos 0)) × (to_z w8 (of_z w8 y) ≡ get_or z k (pos 0))
entries_back s z values signs k x y is of = rw (is, of) (small_back (get_or s k (pos 0)) (omega (arith, values k)), sign_back (get_or z k (pos 0)) (signs k))

pub span_none : (L n : ℕ) (s z : List ℤ) → SpanTo L n s z 0 (record { from = 0; to = n })
unfolding first_within end_within
span_none L n s z = record { from = refl; to = refl }

pub span_more : (L n : ℕ) (s z : List ℤ) (m : ℕ) (old new : Span) → SpanTo L n s z m old → Narrowed L n (get_or s m (pos 0)) (get_or z m (pos 0)) old new → SpanTo L n s z (m + 1) new
unfolding first_within end_within
span_more L n s z m old new h k =
    let x = get_or s m (pos 0) in
    let y = get_or z m (pos 0) in
    rw (add-one m) (record { from = k.from ∙ ap (λ a. max a (entry_start L n x y)) h.from; to = k.to ∙ ap (λ a. min a (entry_stop L n x y)) h.to })

module _ (L n : ℕ) (s z : List ℤ) (m : ℕ) (r : Span) (h : SpanTo L n s z m r) where
  pub span_bound : r.to ≤ n
  span_bound = rw h.to (stop_bound L n s z m)

  -- more entries narrow it further
  narrower : (d : ℕ) → (first_within L n s z m ≤ first_within L n s z (m + d)) × (end_within L n s z (m + d) ≤ end_within L n s z m)
  unfolding first_within end_within
  narrower zero = rw (add-zero m) (omega arith, omega arith)
  narrower (suc d) = let k = narrower d in rw (add-suc m d) (omega (arith, k.0), omega (arith, k.1))

  -- all entries, or the span is empty already
  pub span_all : m ≡ length s → SpanOfBlock L n s z r
  unfolding block
  span_all e = record { is = rw (h.from, h.to, e); bound = span_bound }

  pub span_empty : m ≤ length s → r.to ≤ r.from → SpanOfBlock L n s z r
  unfolding block
  span_empty few none =
      let e : m + (length s - m) ≡ length s = omega arith in
      let k = rw e at (narrower (length s - m)) in
      record {
        is = rows_none s z r.from r.to (omega arith) ∙ sym (rows_none s z _ _ (omega (arith, k.0, k.1, h.from, h.to)));
        bound = span_bound;
      }
