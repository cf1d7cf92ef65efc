-- One edge more in the index, and one key more in the set of bits.
use Prim.Native.Nat.{ℕ, ◌+◌, ◌*◌, ◌/◌, ◌%◌, ◌^◌, ◌<◌}
use mathlib.Core.List.{List, [], ◌∷◌, ◌++◌, head-eq_of_cons-eq, tail-eq_of_cons-eq}
use mathlib.Core.Bool.{Bool, true, false, not, ◌&&◌, not-not}
use mathlib.Core.Path.{◌≡◌, refl, sym, ◌∙◌}
use mathlib.Core.Logic.{by_cases}
use native.Mathlib.Decide.{ℕ_discrete}
use native.Mathlib.Omega.{arith}
use borrow.Author.Tests.{eq-eqb, ne_eqb, eqb-true, not-true}
use lib.Bits.{bit_xor}
use lib.Dec.{eqb}
use lib.ListN.{get_or, length, set, length-set, replicate, get_or-replicate}
use lib.Seq.{get_or-set_same, get_or-set_other}
use Rattle.mathematics.specs.Lists.{same, listed, distinct}
use Rattle.mathematics.proofs.Tests.{and_parts, or_false}
use Rattle.mathematics.proofs.Lists.{numbers_equal, lists_equal, listed_last, distinct_last}
use Rattle.mathematics.proofs.Flags.{flag_zero}
use Rattle.mathematics.proofs.Bits.{bit_below, bit_of_zero, bit_xor_lem, bit_power, bit_power_other}
use Rattle.complex.specs.Complex.{Simplex, entries, simplices}
use Rattle.complex.specs.Numbering.{number, key, EdgeTable}
use Rattle.complex.proofs.Simplices.{simplices_length}
use Rattle.complex.proofs.Chunks.{listed_long, listed_at}
use Rattle.complex.proofs.Numberings.{number_last, number_other}
use Rattle.complex.proofs.Indexes.{simplices_next}
use Rattle.complex.proofs.Triangles.{number_listed}
use Rattle.acceptance.specs.Once.{EdgesIndexed, mark_of, Marked}

-- a test that an entry is new goes on with the test that none is listed twice
goes_on : (r d new old : Bool) → r ≡ d → (r ≡ true → new ≡ not old) → (r && new) ≡ (d && not old)
goes_on true d new old e h = rw (← e) (h refl)
goes_on false d new old e h = rw (← e)

-- no edge
pub none_indexed : EdgesIndexed (replicate 4096 0) true []
unfolding distinct number listed
none_indexed = record { once = refl; index = λ h. record { long = refl; numbers = λ a b al bl. get_or-replicate 4096 (64 * a + b) 0 0 (omega arith) } }

module _ (table : List ℕ) (es : List Simplex) (a b : ℕ) (al : a < 64) (bl : b < 64) where
  -- a new edge
  more_indexed : EdgeTable table es → listed same (a ∷ b ∷ []) es ≡ false → EdgeTable (set table (64 * a + b) (length es + 1)) (es ++ ((a ∷ b ∷ []) ∷ []))
  more_indexed i new =
      let tl = i.long in
      record {
        long = length-set table (64 * a + b) (length es + 1) ∙ tl;
        numbers =
            λ x y xl yl.
            by_cases (ℕ_discrete (64 * x + y) (64 * a + b))
            (λ (p : 64 * x + y ≡ 64 * a + b).
            let xa : x ≡ a = omega arith in
            let yb : y ≡ b = omega arith in
            rw (xa, yb, get_or-set_same table (64 * a + b) (length es + 1) 0 (omega arith), number_last same lists_equal (a ∷ b ∷ []) es new))
            (λ (p : 64 * x + y ≡ 64 * a + b → ⊥).
            rw (get_or-set_other table (64 * a + b) (64 * x + y) (length es + 1) 0 p, number_other same lists_equal (x ∷ y ∷ []) (a ∷ b ∷ []) es (differ x y p)) (i.numbers x y xl yl));
      }
    where
      differ : (x y : ℕ) → (64 * x + y ≡ 64 * a + b → ⊥) → x ∷ y ∷ [] ≡ a ∷ b ∷ [] → ⊥
      differ x y p e = p (rw (head-eq_of_cons-eq e, head-eq_of_cons-eq (tail-eq_of_cons-eq e)))

  -- one edge more
  next : (r : Bool) → EdgesIndexed table r es → EdgesIndexed (set table (64 * a + b) (length es + 1)) (r && eqb (get_or table (64 * a + b) 0) 0) (es ++ ((a ∷ b ∷ []) ∷ []))
  next r i =
      record {
        once = goes_on r (distinct same es) _ (listed same (a ∷ b ∷ []) es) i.once is_new ∙ sym (distinct_last same lists_equal es (a ∷ b ∷ []));
        index =
            λ h.
            let p = and_parts r (eqb (get_or table (64 * a + b) 0) 0) h in
            more_indexed (i.index p.0) (not-true (listed same (a ∷ b ∷ []) es) (sym (is_new p.0) ∙ p.1));
      }
    where
      is_new : r ≡ true → eqb (get_or table (64 * a + b) 0) 0 ≡ not (listed same (a ∷ b ∷ []) es)
      is_new h = rw ((i.index h).numbers a b al bl, ← number_listed (a ∷ b ∷ []) es) (sym (not-not (eqb (number same (a ∷ b ∷ []) es) 0)))

-- one edge of a flat list more
pub indexed_next : (l : List ℕ) (e : ℕ) → get_or l (2 * e) 0 < 64 → get_or l (2 * e + 1) 0 < 64 → (table : List ℕ) (r : Bool) → EdgesIndexed table r (simplices 2 l e)
    → EdgesIndexed (set table (key (entries l (2 * e) 2)) (e + 1)) (r && eqb (get_or table (key (entries l (2 * e) 2)) 0) 0) (simplices 2 l (e + 1))
unfolding key entries
indexed_next l e al bl table r i =
    rw (simplices_next 2 l e)
    (rw (simplices_length 2 l e) at (next table (simplices 2 l e) (get_or l (2 * e) 0) (get_or l (2 * e + 1) 0) al bl r i))

-- the ends of an edge as the list of edges gives them
pub small_ends : (l : List ℕ) (n : ℕ) {items : List Simplex} → items ≡ simplices 2 l n → ((e : ℕ) → e < n → (get_or l (2 * e) 0 < 64) × (get_or l (2 * e + 1) 0 < 64)) → (e : ℕ) → e < length items
    → (get_or (get_or items e []) 0 0 < 64) × (get_or (get_or items e []) 1 0 < 64)
unfolding entries
small_ends l n is small e h = rw (listed_at 2 l n is h) (small e (omega (arith, listed_long 2 l n is)))

-- ---- the set of bits
-- no key
pub none_marked : Marked (replicate 64 0) true []
unfolding distinct listed
none_marked = record { long = refl; once = refl; marks = λ h k kl. rw (get_or-replicate {A = ℕ} 64 (k / 64) 0 0 (omega arith)) (bit_of_zero (k % 64)) }

-- the entry of key k with its bit flipped, and the set with that entry
abbrev pub turned : List ℕ → ℕ → ℕ
turned seen k = bit_xor (get_or seen (k / 64) 0) (2 ^ (k % 64))

abbrev pub flipped : List ℕ → ℕ → List ℕ
flipped seen k = set seen (k / 64) (turned seen k)

module _ (seen : List ℕ) (k : ℕ) (inside : k / 64 < length seen) where
  flipped_own : mark_of (flipped seen k) k ≡ (mark_of seen k + 1) % 2
  flipped_own =
      rw (get_or-set_same seen (k / 64) (turned seen k) 0 inside, bit_xor_lem (get_or seen (k / 64) 0) (2 ^ (k % 64)) (k % 64), bit_power (k % 64))

  flipped_other : (j : ℕ) → (j ≡ k → ⊥) → mark_of (flipped seen k) j ≡ mark_of seen j
  flipped_other j n =
      by_cases (ℕ_discrete (j / 64) (k / 64))
      (λ (p : j / 64 ≡ k / 64).
      rw (p, get_or-set_same seen (k / 64) (turned seen k) 0 inside, bit_xor_lem (get_or seen (k / 64) 0) (2 ^ (k % 64)) (j % 64), bit_power_other (k % 64) (j % 64) (λ (q : j % 64 ≡ k % 64). n (omega arith)))
      (omega (arith, bit_below (get_or seen (k / 64) 0) (j % 64))))
      (λ (p : j / 64 ≡ k / 64 → ⊥).
      rw (get_or-set_other seen (k / 64) (j / 64) (turned seen k) 0 p))

-- one key more
pub marked_next : (seen keys : List ℕ) (r : Bool) (k : ℕ) → k < 4096 → Marked seen r keys → Marked (flipped seen k) (r && eqb (mark_of seen k) 0) (keys ++ (k ∷ []))
marked_next seen keys r k kl m =
    record {
      long = length-set seen (k / 64) (turned seen k) ∙ m.long;
      once = goes_on r (distinct eqb keys) _ (listed eqb k keys) m.once is_new ∙ sym (distinct_last eqb numbers_equal keys k);
      marks =
          λ h j jl.
          let p = and_parts r (eqb (mark_of seen k) 0) h in
          rw (listed_last eqb j keys k)
          (by_cases (ℕ_discrete j k)
          (λ (q : j ≡ k).
          rw (q, flipped_own seen k inside, eqb-true (mark_of seen k) 0 p.1, not-true (listed eqb k keys) (sym (is_new p.0) ∙ p.1), eq-eqb k k refl))
          (λ (q : j ≡ k → ⊥).
          rw (flipped_other seen k inside j q, ne_eqb j k q, or_false) (m.marks p.0 j jl)));
    }
  where
    inside : k / 64 < length seen
    inside = rw m.long (omega arith)

    is_new : r ≡ true → eqb (mark_of seen k) 0 ≡ not (listed eqb k keys)
    is_new h = flag_zero (mark_of seen k) k keys (m.marks h k kl)
