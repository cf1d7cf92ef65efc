-- The place of a configuration that need not be listed: just the states before it come before it, and places rise with what has them.
use Prim.Native.Nat.{ℕ, zero, suc, ◌<◌, ◌≤◌}
use mathlib.Core.List.{List, [], ◌∷◌}
use mathlib.Core.Bool.{Bool, true, false, cond, false≢true}
use mathlib.Core.Path.{◌≡◌, refl, sym, ap, ◌∙◌}
use native.Mathlib.Omega.{arith}
use native.Mathlib.Decide.{ℕ_discrete, dec_lt}
use borrow.Author.Tests.{lt-ltb, le-ltb}
use lib.Dec.{ltb, leb-suc-suc}
use lib.IntN.{ℤ, pos, ◌+ℤ◌}
use lib.Signed.{◌<ℤ◌}
use lib.ListN.{get_or, length}
use Rattle.mathematics.specs.Entries.{Each}
use Rattle.mathematics.specs.Counting.{keep}
use Rattle.mathematics.proofs.Ordered.{each_first, each_later, kept_front}
use Rattle.complex.specs.Complex.{Complex}
use Rattle.complex.specs.Judge.{Accepted}
use Rattle.gauss_law.specs.Listing.{Before, states}
use Rattle.gauss_law.specs.Shifts.{raised, shifted}
use Rattle.gauss_law.proofs.Accepted.{states_ordered}
use Rattle.gauss_law.proofs.Listing.{before_trans}
use Rattle.gauss_law.proofs.Shifts.{shifted_length, shifted_at, shifted_elsewhere}
use Rattle.hilbert.specs.Basis.{comes_before, place}
use Rattle.hilbert.proofs.Order.{before_smaller, smaller_before}
use Rattle.plaquettes.proofs.Rising.{less_shifted}
use Rattle.wilson.specs.Wilson.{Step, walked}

-- ---- a test that fails from some entry on
kept_few : {A : Type 0} (p : A → Bool) (l : List A) → length (keep p l) ≤ length l
unfolding keep
kept_few p [] = omega arith
kept_few p (x ∷ l) = go (p x) (kept_few p l)
  where
    go : (b : Bool) → length (keep p l) ≤ length l → length (cond b (x ∷ keep p l) (keep p l)) ≤ suc (length l)
    go true h = omega arith
    go false h = omega arith

-- as many pass as stand before that entry
front_kept : {A : Type 0} (p : A → Bool) (d : A) (l : List A) → ((i j : ℕ) → i < j → j < length l → p (get_or l j d) ≡ true → p (get_or l i d) ≡ true)
    → (i : ℕ) → i < length l → p (get_or l i d) ≡ ltb i (length (keep p l))
unfolding keep
front_kept p d [] down i h = absurd (omega arith)
front_kept p d (x ∷ l) down i h = go (front_kept p d l (λ i j k m. down (suc i) (suc j) (omega arith) (omega arith))) (p x) refl i h
  where
    -- where the first fails, all fail
    fails : p x ≡ false → (j : ℕ) → j < length l → (b : Bool) → p (get_or l j d) ≡ b → b ≡ false
    fails e j k true q = absurd (false≢true (sym e ∙ down 0 (suc j) (omega arith) (omega arith) q))
    fails e j k false q = refl

    go : ((i : ℕ) → i < length l → p (get_or l i d) ≡ ltb i (length (keep p l))) → (b : Bool) → p x ≡ b
        → (i : ℕ) → i < suc (length l) → p (get_or (x ∷ l) i d) ≡ ltb i (length (cond b (x ∷ keep p l) (keep p l)))
    go later true e zero h = e ∙ sym (lt-ltb 0 (suc (length (keep p l))) (omega arith))
    go later true e (suc i) h = later i (omega arith) ∙ sym (leb-suc-suc (suc i) (length (keep p l)))
    go later false e i h =
        let none : length (keep p l) ≡ 0 = kept_front p d l 0 (omega arith) (λ j k. fails e j k (p (get_or l j d)) refl ∙ sym (le-ltb j 0 (omega arith))) in
        rw none (at i h)
      where
        at : (i : ℕ) → i < suc (length l) → p (get_or (x ∷ l) i d) ≡ ltb i 0
        at zero h = e ∙ sym (le-ltb 0 0 (omega arith))
        at (suc i) h = fails e i (omega arith) (p (get_or l i d)) refl ∙ sym (le-ltb (suc i) 0 (omega arith))

-- ---- places
module _ (c : Complex) (accepted : Accepted c) (L : ℕ) where
  pub place_within : (s : List ℤ) → place c L s ≤ length (states c L)
  unfolding place
  place_within s = kept_few (λ t. comes_before c t s) (states c L)

  pub before_place : (s : List ℤ) (i : ℕ) → i < length (states c L) → comes_before c (get_or (states c L) i []) s ≡ ltb i (place c L s)
  unfolding place
  before_place s i h =
      front_kept (λ t. comes_before c t s) [] (states c L)
      (λ i j k m e. (before_smaller c _ _ (before_trans c _ _ _ (states_ordered c accepted L i j k m) (smaller_before c _ _ accepted e))).0) i h

  pub places_rise : (s t : List ℤ) → Before c s t → place c L s ≤ place c L t
  places_rise s t r = go (dec_lt (place c L t) (place c L s))
    where
      go : Dec (place c L t < place c L s) → place c L s ≤ place c L t
      go (no h) = omega arith
      go (yes h) =
          let inside : place c L t < length (states c L) = omega (arith, place_within s) in
          let first = smaller_before c _ _ accepted (before_place s (place c L t) inside ∙ lt-ltb _ _ h) in
          let itself : ltb (place c L t) (place c L t) ≡ false = le-ltb (place c L t) (place c L t) (omega arith) in
          let both = (before_smaller c _ _ (before_trans c _ _ _ first r)).0 in
          absurd (false≢true (sym (before_place t (place c L t) inside ∙ itself) ∙ both))

-- ---- walks from two states
module _ (c : Complex) where
  before_shifted : (s t : List ℤ) (e : ℕ) (d : ℤ) → e < length s → e < length t → Before c s t → Before c (shifted s e d) (shifted t e d)
  unfolding raised
  before_shifted s t e d hs ht r =
      record {
        edge = r.edge;
        free = r.free;
        less = less (ℕ_discrete r.edge e);
        above = λ f k g. above f (r.above f k g) (ℕ_discrete f e);
      }
    where
      less : Dec (r.edge ≡ e) → get_or (shifted s e d) r.edge (pos 0) <ℤ get_or (shifted t e d) r.edge (pos 0)
      less (yes q) = rw (q, shifted_at s e d hs, shifted_at t e d ht) (less_shifted _ _ d (rw q at r.less))
      less (no q) = rw (shifted_elsewhere s e d r.edge q, shifted_elsewhere t e d r.edge q) r.less

      above : (f : ℕ) → get_or s f (pos 0) ≡ get_or t f (pos 0) → Dec (f ≡ e) → get_or (shifted s e d) f (pos 0) ≡ get_or (shifted t e d) f (pos 0)
      above f same (yes q) = rw (q, shifted_at s e d hs, shifted_at t e d ht) (ap (λ x. x +ℤ d) (rw q at same))
      above f same (no q) = shifted_elsewhere s e d f q ∙ same ∙ sym (shifted_elsewhere t e d f q)

  -- a walk over edges below m keeps the order
  pub before_walked : (m : ℕ) (s t : List ℤ) (w : List Step) → length s ≡ m → length t ≡ m → Each (λ x. x.0 < m) w → Before c s t → Before c (walked s w) (walked t w)
  unfolding walked
  before_walked m s t [] ls lt fits r = r
  before_walked m s t (x ∷ w) ls lt fits r =
      let inside = each_first fits in
      before_walked m (shifted s x.0 x.1) (shifted t x.0 x.1) w (shifted_length s x.0 x.1 ∙ ls) (shifted_length t x.0 x.1 ∙ lt) (each_later fits)
      (before_shifted s t x.0 x.1 (omega (arith, inside)) (omega (arith, inside)) r)
