-- The state at a place after a triangle's shift.
use Prim.Native.Nat.{ℕ, ◌<◌}
use mathlib.Core.Bool.{true}
use mathlib.Core.List.{[]}
use mathlib.Core.Path.{◌≡◌, refl, ◌∙◌}
use lib.IntN.{pos}
use lib.ListN.{get_or, length}
use Rattle.complex.specs.Complex.{Complex}
use Rattle.complex.specs.Judge.{Accepted}
use Rattle.gauss_law.specs.Gauss.{State}
use Rattle.gauss_law.proofs.Accepted.{listing_complete}
use Rattle.gauss_law.proofs.Shifts.{triangle_long}
use Rattle.gauss_law.specs.Listing.{states}
use Rattle.hilbert.specs.Basis.{in_basis}
use Rattle.plaquettes.specs.Triangle.{moved_state, shifted_state, sides_within}
use Rattle.plaquettes.proofs.TriangleRows.{moved_in_basis}

-- what stands at a place of the list is a state
pub state_there : (c : Complex) → Accepted c → (L k : ℕ) → k < length (states c L) → State c c.charges L (get_or (states c L) k [])
unfolding states
state_there c accepted L k h = (listing_complete c accepted c.charges L).only _ (k, h, refl)

-- the shifted state has a value for each edge, and within the band it is in the basis
pub shifted_listed : (c : Complex) → Accepted c → (L t k : ℕ) → t < length c.triangles → k < length (states c L)
    → (length (shifted_state c L t k) ≡ length c.edges) × (sides_within c L t (shifted_state c L t k) ≡ true → in_basis c L (shifted_state c L t k) ≡ true)
unfolding moved_state
shifted_listed c accepted L t k triangle state =
    let is = state_there c accepted L k state in
    (triangle_long c t (pos 1) (get_or (states c L) k []) ∙ is.sized, λ band. moved_in_basis c accepted L t triangle (pos 1) (get_or (states c L) k []) is band)
