-- An entry off the diagonal has one term at most, and no triangle adds on the diagonal.
use Prim.Native.Nat.{ℕ, suc, ◌<◌}
use mathlib.Core.Bool.{true, false, cond, false≢true}
use mathlib.Core.Path.{◌≡◌, refl, sym, ◌∙◌}
use mathlib.Core.Logic.{◌≢◌}
use borrow.Author.Tests.{ne_eqb}
use lib.Ieee.{Float, binary64, add}
use lib.ListN.{length}
use Rattle.complex.specs.Complex.{Complex}
use Rattle.complex.specs.Judge.{Accepted}
use Rattle.gauss_law.specs.Listing.{states}
use Rattle.matrices.specs.declared.coupling.KSParams.{KSParams}
use Rattle.matrices.specs.Terms.{dense_plaquette_term}
use Rattle.matrices.specs.Coupling.{float_of}
use Rattle.matrices.proofs.Steps.{none_taken, one_taken}
use Rattle.plaquettes.specs.Joined.{joins}
use Rattle.plaquettes.proofs.Joined.{one_triangle, never_joined}
use Rattle.hamiltonian.specs.Dense.{u1_electric_entry, u1_entry}

module _ (c : Complex) (L : ℕ) (p : KSParams) (w : ℕ → Float) (i j : ℕ) where
  adds : ℕ → Float → Float
  adds t x = add binary64 x (dense_plaquette_term p (w t))

  more : (t : ℕ) → u1_entry c L p w (suc t) i j ≡ cond (joins c L t i j) (adds t (u1_entry c L p w t i j)) (u1_entry c L p w t i j)
  unfolding u1_entry adds
  more t = refl

  begins : i ≢ j → u1_entry c L p w 0 i j ≡ float_of 0
  unfolding u1_entry u1_electric_entry
  begins apart = rw (ne_eqb i j apart)

  -- where no triangle joins the states, 0.0
  pub entry_apart : i ≢ j → ((t : ℕ) → t < length c.triangles → joins c L t i j ≡ false) → u1_entry c L p w (length c.triangles) i j ≡ float_of 0
  entry_apart apart none = none_taken (λ t. u1_entry c L p w t i j) (λ t. joins c L t i j) adds more (length c.triangles) none ∙ begins apart

  module _ (accepted : Accepted c) (h : i < length (states c L)) where
    -- where one does, its own term
    pub entry_joined : j < length (states c L) → (t : ℕ) → t < length c.triangles → joins c L t i j ≡ true
        → u1_entry c L p w (length c.triangles) i j ≡ add binary64 (float_of 0) (dense_plaquette_term p (w t))
    unfolding adds
    entry_joined k t number e =
        one_taken (λ t. u1_entry c L p w t i j) (λ t. joins c L t i j) adds more (length c.triangles) t number e (λ t' number' e'. one_triangle c accepted L t' t number' number i j h k e' e)
        ∙ rw (begins apart)
      where
        apart : i ≢ j
        apart same = false≢true (sym (never_joined c accepted L t number i h) ∙ rw (← same) at e)

-- on the diagonal the electric term alone
pub entry_diagonal : (c : Complex) → Accepted c → (L : ℕ) (p : KSParams) (w : ℕ → Float) (i : ℕ) → i < length (states c L)
    → u1_entry c L p w (length c.triangles) i i ≡ u1_electric_entry c L p i i
unfolding u1_entry
entry_diagonal c accepted L p w i h =
    none_taken (λ t. u1_entry c L p w t i i) (λ t. joins c L t i i) (adds c L p w i i) (more c L p w i i) (length c.triangles) (λ t number. never_joined c accepted L t number i h)
