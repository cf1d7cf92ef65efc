-- What the code keeps while it adds the plaquettes of a triangle: one walk over the states finds all targets, since they rise.
use Rattle.std.specs.Prelude.{ℕ, ◌+◌, ◌<◌, ◌≤◌, List, Bool, ◌&&◌, ◌||◌, cond, ◌≡◌, ltb, Float}
use Rattle.std.specs.Float.{binary64}
use Rattle.std.specs.Float.Ieee.{add}
use Rattle.complex.specs.Complex.{Complex}
use Rattle.matrices.specs.declared.coupling.KSParams.{KSParams}
use Rattle.matrices.specs.Matrix.{Matrix, with_added}
use Rattle.matrices.specs.Terms.{dense_plaquette_term}
use Rattle.hamiltonian.specs.Dense.{u1_entry}
use Rattle.plaquettes.specs.Triangle.{hits}

-- entry (i, j) while triangle t is under way: the states below k have been shifted
unfoldable pub under_way : Complex → ℕ → ℕ → ℕ → ℕ → ℕ → Bool
under_way c L t k i j = (hits c L t i j && ltb i k) || (hits c L t j i && ltb j k)

unfoldable pub part_entry : Complex → ℕ → KSParams → (ℕ → Float) → ℕ → ℕ → ℕ → ℕ → Float
part_entry c L p w t k i j = cond (under_way c L t k i j) (add binary64 (u1_entry c L p w t i j) (dense_plaquette_term p (w t))) (u1_entry c L p w t i j)

-- a target j below n is a hit: x was added to (i, j) and (j, i), and the next target is past j
pub record HitAdded (n i j from : ℕ) (x : Float) (old new : List Float) (r : ℕ) : Type 0 where
  pub hit : j < n → (r ≡ j + 1) × (new ≡ with_added n j i x (with_added n i j x old))
  pub miss : n ≤ j → (r ≡ from) × (new ≡ old)

-- the entries were those before triangle t, and are those after it, where it adds x
abbrev pub PlaquetteAdded : Complex → ℕ → ℕ → ℕ → Float → List Float → List Float → Type 0
PlaquetteAdded c L t n x old new =
    (p : KSParams) (w : ℕ → Float) → x ≡ dense_plaquette_term p (w t) → (first : List Float) → Matrix (u1_entry c L p w t) n first old → Matrix (u1_entry c L p w (t + 1)) n first new
