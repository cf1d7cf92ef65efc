-- Demand 3 holds.
use Prim.Native.Nat.{ℕ, zero, suc, ◌*◌, ◌≤◌, ◌<◌}
use mathlib.Core.List.{List, [], ◌∷◌}
use mathlib.Core.Bool.{Bool, true, false, not, ◌&&◌, ◌||◌, false≢true}
use mathlib.Core.Path.{◌≡◌, refl, sym, ap, ◌∙◌}
use native.Mathlib.Omega.{arith}
use borrow.Author.Tests.{lt-leb, leb-false}
use lib.Dec.{leb}
use lib.IntN.{ℤ, pos}
use lib.ListN.{get_or, length}
use Rattle.mathematics.specs.Tests.{every_entry}
use Rattle.mathematics.specs.Refusals.{first, Outcome, value, refused, outcome}
use Rattle.mathematics.specs.Calls.{Answered}
use Rattle.mathematics.proofs.Refusals.{numbered}
use Rattle.mathematics.proofs.Calls.{Tells, none as last, here, past, past_all}
use Rattle.std.proofs.Common.{Result}
use Rattle.answers.specs.declared.refusal.Refusal.{Refusal}
use Rattle.answers.specs.Refusal.{answer_of}
use Rattle.complex.specs.declared.SimplicialComplex.{SimplicialComplex}
use Rattle.complex.specs.Complex.{Complex, complex_of}
use Rattle.complex.specs.Judge.{Accepted}
use Rattle.complex.specs.Sides.{side}
use Rattle.complex.proofs.TriangleEdges.{triangle_sides}
use Rattle.gauss_law.specs.Listing.{states}
use Rattle.gauss_law.proofs.Accepted.{listing_complete}
use Rattle.gauss_law.proofs.Shifts.{triangle_moved}
use Rattle.enumeration.specs.Enumeration.{basis_tests}
use Rattle.enumeration.proofs.Demanded.{not_short, basis_none, demanded}
use Rattle.hilbert.specs.Basis.{place}
use Rattle.gauss_law.specs.Gauss.{within}
use Rattle.plaquettes.specs.Triangle.{moved_state, shifted_state, sides_within, triangle_tests, triangle_call}
use Rattle.plaquettes.specs.Demand.{OutOfBand, ShiftAnswered, ShiftDemand, Demand3}
use Rattle.plaquettes.proofs.TriangleTelling.{state_there}

-- a value is no refusal
is_value : Outcome ℕ → ℕ
is_value (value n) = 1
is_value (refused n) = 0

value_refused : {n m : ℕ} → value n ≡ refused m → ⊥
unfolding is_value
value_refused e = absurd (omega (arith, ap is_value e))

-- ---- one of the three edges leaves
module _ (c : Complex) (right : Accepted c) (L t : ℕ) (number : t < length c.triangles) (s : List ℤ) where
  value_of : ℕ → ℤ
  value_of k = get_or s (side c t k) (pos 0)

  three : sides_within c L t s ≡ (within L (value_of 0) && (within L (value_of 1) && (within L (value_of 2) && true)))
  unfolding sides_within every_entry side value_of
  three = rw (triangle_sides c right t number).numbers

  pub leaves : sides_within c L t s ≡ false → OutOfBand c L t s
  unfolding within value_of
  leaves h = go (within L (value_of 0)) refl (within L (value_of 1)) refl (within L (value_of 2)) refl (sym three ∙ h)
    where
      go : (a : Bool) → within L (value_of 0) ≡ a → (b : Bool) → within L (value_of 1) ≡ b → (d : Bool) → within L (value_of 2) ≡ d → (a && (b && (d && true))) ≡ false → OutOfBand c L t s
      go false p b q d r k = record { which = 0; one_of_three = omega arith; out = leb-false _ _ p }
      go true p false q d r k = record { which = 1; one_of_three = omega arith; out = leb-false _ _ q }
      go true p true q false r k = record { which = 2; one_of_three = omega arith; out = leb-false _ _ r }
      go true p true q true r k = absurd (false≢true (sym k))

  pub left : OutOfBand c L t s → sides_within c L t s ≡ false
  unfolding within value_of
  left out = three ∙ go out.which out.one_of_three (lt-leb _ _ out.out)
    where
      go : (k : ℕ) → k < 3 → within L (value_of k) ≡ false → (within L (value_of 0) && (within L (value_of 1) && (within L (value_of 2) && true))) ≡ false
      go zero b h = rw h
      go (suc zero) b h = rw h (last (within L (value_of 0)))
        where
          last : (a : Bool) → (a && false) ≡ false
          last true = refl
          last false = refl
      go (suc (suc zero)) b h = rw h (last (within L (value_of 0)) (within L (value_of 1)))
        where
          last : (a b : Bool) → (a && (b && false)) ≡ false
          last true true = refl
          last true false = refl
          last false b = refl
      go (suc (suc (suc k))) b h = absurd (omega arith)

-- ---- both halves
module _ (c : Complex) (right : Accepted c) (L : ℕ) (none : first (basis_tests c L) ≡ 0) where
  module _ (t k : ℕ) (number : t < length c.triangles) (state : k < length (states c L)) where
    decided : (room : ℕ) → length (states c L) * length c.edges ≤ room → {n : ℕ} → Tells ((16, not (sides_within c L t (shifted_state c L t k))) ∷ []) n → first (triangle_tests c L t k room) ≡ n
    unfolding numbered every_entry
    decided room long end =
        let numbers : (leb (length c.triangles) t || leb (length (states c L)) k) ≡ false = rw (lt-leb (length c.triangles) t number, lt-leb (length (states c L)) k state) in
        (past_all (basis_tests c L) refl none (past numbers (past (not_short c L room long) end))).number

    shift_told : (old new : List ℤ) (r : Result ℕ Refusal) → Answered (triangle_call c L t k old) (answer_of r) new → length (states c L) * length c.edges ≤ length old → ShiftAnswered c L (states c L) t k r
    unfolding outcome moved_state triangle_call
    shift_told old new r h long =
        record {
          sides = triangle_sides c right t number;
          after = shifted_state c L t k;
          shifted = triangle_moved c right t number (pos 1) (get_or (states c L) k []) (state_there c right L k state).sized;
          refused_only = λ e. leaves c right L t number (shifted_state c L t k) (only (sides_within c L t (shifted_state c L t k)) refl e);
          refused_then = λ out. by_band (here (rw (left c right L t number (shifted_state c L t k) out)));
          placed = λ stay. at_place (sides_within c L t (shifted_state c L t k)) refl (λ e. stay (leaves c right L t number (shifted_state c L t k) e));
        }
      where
        by_band : {n : ℕ} → Tells ((16, not (sides_within c L t (shifted_state c L t k))) ∷ []) n → answer_of r ≡ outcome n (place c L (shifted_state c L t k))
        by_band end = h.answer ∙ ap (λ n. outcome n (place c L (shifted_state c L t k))) (decided (length old) long end)

        only : (b : Bool) → sides_within c L t (shifted_state c L t k) ≡ b → answer_of r ≡ refused 16 → b ≡ false
        only true band e = absurd (value_refused (sym (by_band (past (rw band) last)) ∙ e))
        only false band e = refl

        at_place : (b : Bool) → sides_within c L t (shifted_state c L t k) ≡ b → (b ≡ false → ⊥) → (p : ℕ) × (answer_of r ≡ value p) × (p < length (states c L)) × (get_or (states c L) p [] ≡ shifted_state c L t k)
        at_place true band f =
            let end : Tells ((16, not (sides_within c L t (shifted_state c L t k))) ∷ []) 0 = past (rw band) last in
            let there = (h.known (decided (length old) long end)).found in
            (place c L (shifted_state c L t k), by_band end, there.below, there.state)
        at_place false band f = absurd (f refl)

pub shift_demanded : (c : SimplicialComplex) (L t k : ℕ) (old new : List ℤ) (r : Result ℕ Refusal) → Answered (triangle_call (complex_of c) L t k old) (answer_of r) new
    → Answered (triangle_call (complex_of c) L t k old) (answer_of r) new × ShiftDemand (complex_of c) L t k old r
unfolding complex_of
shift_demanded c L t k old new r h =
    (h, record { zero = λ v. refl; answered = λ can number state long. shift_told (complex_of c) can.accepted L (basis_none c L can) t k number state old new r h long })

pub demand_3 : Demand3
unfolding states complex_of
demand_3 c L can =
    record {
      zero = λ v. refl;
      complete = listing_complete (complex_of c) can.accepted (complex_of c).charges L;
      lists = λ old new r h. (demanded c L old new r h).1;
      shifts = λ t k old new r h. (shift_demanded c L t k old new r h).1;
    }
