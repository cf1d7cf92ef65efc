-- What preparing a basis tells, and what a prepared basis walks.
use Rattle.std.specs.Prelude.{ℕ, ◌≡◌, Result, IfOk}
use Rattle.mathematics.specs.Refusals.{first}
use Rattle.complex.specs.Complex.{Complex}
use Rattle.answers.specs.Refusal.{judged}
use Rattle.answers.specs.declared.refusal.Refusal.{Refusal}
use Rattle.enumeration.specs.declared.basis.Basis.{Basis}
use Rattle.enumeration.specs.Enumeration.{basis_tests, BasisWalks}

-- a basis by which the states of a complex are walked
pub record BasisOf (c : Complex) (L : ℕ) (b : Basis) : Type 0 where
  pub truncated : b.lambda ≡ L
  pub walks : BasisWalks c L b.walker b.blocks

-- the refusal of a basis, or what walks it
pub record BasisPrepared (c : Complex) (L : ℕ) (r : Result Basis Refusal) : Type 0 where
  pub refusal : judged r ≡ first (basis_tests c L)
  pub basis : IfOk r (λ b. BasisOf c L b)
