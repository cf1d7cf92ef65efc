-- An entry off the diagonal has one term at most, and no triangle adds on the diagonal.
use Prim.Native.Nat.{ℕ, suc, ◌<◌}
use mathlib.Core.Bool.{true, false, cond, false≢true}
use mathlib.Core.Path.{◌≡◌, refl, sym, ◌∙◌}
use mathlib.Core.Logic.{◌≢◌}
use borrow.Author.Tests.{ne_eqb}
use lib.Ieee.{Float, binary64, add, mul}
use lib.ListN.{length}
use Rattle.complex.specs.Complex.{Complex}
use Rattle.complex.specs.Judge.{Accepted}
use Rattle.matrices.specs.declared.coupling.KSParams.{KSParams}
use Rattle.matrices.specs.Coupling.{float_of}
use Rattle.matrices.proofs.Steps.{none_taken, one_taken}
use Rattle.su2_even_sets.specs.EvenSets.{su2_states}
use Rattle.su2_masks.specs.Flips.{flips}
use Rattle.su2_quantum.specs.Dense.{su2_electric_entry, su2_entry}
use Rattle.su2_masks.proofs.Flips.{one_flip, never_flipped}

module _ (c : Complex) (p : KSParams) (w : ℕ → Float) (i j : ℕ) where
  adds : ℕ → Float → Float
  adds t x = add binary64 x (mul binary64 p.magnetic (w t))

  more : (t : ℕ) → su2_entry c p w (suc t) i j ≡ cond (flips c t i j) (adds t (su2_entry c p w t i j)) (su2_entry c p w t i j)
  unfolding su2_entry adds
  more t = refl

  begins : i ≢ j → su2_entry c p w 0 i j ≡ float_of 0
  unfolding su2_entry su2_electric_entry
  begins apart = rw (ne_eqb i j apart)

  -- where no triangle flips i to j, 0.0
  pub su2_entry_apart : i ≢ j → ((t : ℕ) → t < length c.triangles → flips c t i j ≡ false) → su2_entry c p w (length c.triangles) i j ≡ float_of 0
  su2_entry_apart apart none = none_taken (λ t. su2_entry c p w t i j) (λ t. flips c t i j) adds more (length c.triangles) none ∙ begins apart

  module _ (accepted : Accepted c) (h : i < length (su2_states c)) where
    -- where one does, its own term
    pub su2_entry_joined : (t : ℕ) → t < length c.triangles → flips c t i j ≡ true
        → su2_entry c p w (length c.triangles) i j ≡ add binary64 (float_of 0) (mul binary64 p.magnetic (w t))
    unfolding adds
    su2_entry_joined t number e =
        one_taken (λ t. su2_entry c p w t i j) (λ t. flips c t i j) adds more (length c.triangles) t number e (λ t' number' e'. one_flip c accepted i h t' t j number' number e' e)
        ∙ rw (begins apart)
      where
        apart : i ≢ j
        apart same = false≢true (sym (never_flipped c accepted t number i h) ∙ rw (← same) at e)

-- on the diagonal the electric term alone
pub su2_entry_diagonal : (c : Complex) → Accepted c → (p : KSParams) (w : ℕ → Float) (i : ℕ) → i < length (su2_states c)
    → su2_entry c p w (length c.triangles) i i ≡ su2_electric_entry c p i i
unfolding su2_entry
su2_entry_diagonal c accepted p w i h =
    none_taken (λ t. su2_entry c p w t i i) (λ t. flips c t i i) (adds c p w i i) (more c p w i i) (length c.triangles) (λ t number. never_flipped c accepted t number i h)
