-- The value and the rows of a shift, and what is judged of it.
use Rattle.std.proofs.Common.{◌≡◌, refl, Some, ℕ, ◌<◌, ◌≤◌, List, ◌++◌, ℤ, ◌+ℤ◌, pos, false, sym, ap, ◌∙◌, arith, length, take, drop, set, get_or, leb, ltb, Bool, true, not, ◌||◌, ◌*◌, w32, to_z, of_z, FitsSigned}
use native.Mathlib.Decide.{dec_lt}
use lib.IntN.{nat_abs}
use lib.ListN.{length-set}
use lib.Seq.{take_at}
use borrow.Author.Tests.{lt-leb, leb-true}
use Rattle.mathematics.specs.Writing.{front}
use Rattle.mathematics.proofs.Signed.{back32, size_fits}
use Rattle.complex.specs.declared.SimplicialComplex.{SimplicialComplex}
use Rattle.complex.specs.Complex.{Complex, complex_of}
use Rattle.complex.specs.Judge.{Accepted}
use Rattle.walker.specs.Tables.{states_of}
use Rattle.enumeration.specs.declared.basis.Basis.{Basis}
use Rattle.enumeration.specs.Basis.{BasisOf}
use Rattle.enumeration.specs.Enumeration.{short}
use Rattle.hilbert.proofs.Prepared.{short_by}
use Rattle.gauss_law.proofs.Spanned.{edges_long}
use Rattle.gauss_law.specs.Gauss.{within}
use Rattle.gauss_law.specs.Shifts.{raised, shifted}
use Rattle.gauss_law.proofs.Shifts.{shifted_length, shifted_at}
use Rattle.answers.specs.declared.finding.Finding.{Finding}
use Rattle.answers.specs.declared.finding.Finding.TheVariants.{BreaksLaw, OutsideBand}
use Rattle.hilbert.specs.Basis.{why_unlisted, Says, Unlisted}
use Rattle.hilbert.proofs.Unlisted.{unlisted_known}
use Rattle.shifts.specs.Shift.{ShiftUnlisted}

-- a sum that no value of the machine holds is not in the band
pub far_from_band : (L : ℕ) (z : ℤ) → L ≤ 1000 → (FitsSigned w32 z → ⊥) → within L z ≡ false
unfolding within
far_from_band L z few far = go (dec_lt L (nat_abs z))
  where
    go : Dec (L < nat_abs z) → leb (nat_abs z) L ≡ false
    go (yes h) = lt-leb (nat_abs z) L h
    go (no h) = absurd (far (size_fits w32 z (omega arith)))

module _ (s : List ℤ) (e : ℕ) (d : ℤ) where
  -- the sum as the machine makes it
  pub raised_is : FitsSigned w32 (get_or s e (pos 0)) → FitsSigned w32 d → to_z w32 (of_z w32 (get_or s e (pos 0))) +ℤ to_z w32 (of_z w32 d) ≡ raised s e d
  unfolding raised
  raised_is x y = rw (back32 (get_or s e (pos 0)) x.sfits, back32 d y.sfits)

  -- the front of a row is the shifted configuration
  pub row_is : (m : ℕ) (v : ℤ) (rest row : List ℤ) → length s ≡ m → v ≡ raised s e d → row ≡ set s e v ++ rest → take m row ≡ shifted s e d
  unfolding shifted
  row_is m v rest row long value h = rw (h, value) (take_at (set s e (raised s e d)) rest m (length-set s e (raised s e d) ∙ long))

  -- a list that begins with it
  pub begins_shifted : (m : ℕ) (written old : List ℤ) → length s ≡ m → written ≡ shifted s e d → written ++ drop m old ≡ front (shifted s e d) old
  begins_shifted m written old long is = rw is (ap (λ n. shifted s e d ++ drop n old) (sym (shifted_length s e d ∙ long)))

-- ---- a shift whose edge and lists pass
pub shift_inside : (c : SimplicialComplex) (e : ℕ) → e < c.n_edges → leb (length (complex_of c).edges) e ≡ false
shift_inside c e below = rw (edges_long c) (lt-leb _ _ below)

pub shift_room : (c : SimplicialComplex) (L : ℕ) (b : Basis) (of : BasisOf (complex_of c) L b) (states res : ℕ) (tight : Bool)
    → tight ≡ ltb states (length (states_of b.walker b.lambda b.blocks) * b.walker.n_edges) → (tight || ltb res c.n_edges) ≡ false
    → (short (complex_of c) L states || ltb res (length (complex_of c).edges)) ≡ false
shift_room c L b of states res tight tight_is roomy = rw (short_by of states, ← tight_is, edges_long c) roomy

-- and whose value stays within the band
module _ (L : ℕ) (s : List ℤ) (e : ℕ) (d : ℤ) (x : FitsSigned w32 (get_or s e (pos 0))) (y : FitsSigned w32 d) (v : ℤ) (fits : FitsSigned w32 v)
    (told : (v ≡ to_z w32 (of_z w32 (get_or s e (pos 0))) +ℤ to_z w32 (of_z w32 d)) × (within L v ≡ true)) where
  is : v ≡ raised s e d
  is = told.0 ∙ raised_is s e d x y

  shift_value : to_z w32 (of_z w32 v) ≡ raised s e d
  shift_value = back32 v fits.sfits ∙ is

  pub shift_band : not (within L (raised s e d)) ≡ false
  shift_band = rw (← is, told.1)

  pub shift_row : (m : ℕ) (rest row : List ℤ) → length s ≡ m → row ≡ set s e (to_z w32 (of_z w32 v)) ++ rest → take m row ≡ shifted s e d
  shift_row m rest row sized written = row_is s e d m _ rest row sized shift_value written

-- ---- a shift whose value stays within the band, and that is not listed
pub shift_unlisted : (c : Complex) → Accepted c → (L : ℕ) (s : List ℤ) (e : ℕ) (d : ℤ) → length s ≡ length c.edges → e < length s → not (within L (raised s e d)) ≡ false
    → (f : Finding) → why_unlisted c L (shifted s e d) ≡ Some f → ShiftUnlisted c L s e d f
unfolding within
shift_unlisted c accepted L s e d long inside band f why = record { shifted = known; other = other f known.says }
  where
    known : Unlisted c L (shifted s e d) f
    known = unlisted_known c accepted L (shifted s e d) (shifted_length s e d ∙ long) f why

    small : leb (nat_abs (raised s e d)) L ≡ true
    small = go (leb (nat_abs (raised s e d)) L) band
      where
        go : (b : Bool) → not b ≡ false → b ≡ true
        go true h = refl
        go false h = absurd (cc)

    other : (f : Finding) → Says c L (shifted s e d) f → (k : ℕ) → f ≡ OutsideBand k → k ≡ e → ⊥
    other (BreaksLaw u) says k is same = absurd (cc)
    other (OutsideBand j) says k is same =
        let at : j ≡ e = cc in
        let out : L < nat_abs (raised s e d) = rw (at, shifted_at s e d inside) at says.outside in
        omega (arith, leb-true (nat_abs (raised s e d)) L small)
