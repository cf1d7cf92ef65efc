-- The shift of a triangle on the states, what apply_triangle_shift tells, and what its list then holds.
use Rattle.std.specs.Prelude.{ℕ, ◌<◌, ◌≤◌, List, [], ◌∷◌, ◌++◌, Bool, not, ◌&&◌, ◌||◌, cond, ◌≡◌, eqb, leb, ltb, ℤ, pos, nat_abs, get_or, length}
use Rattle.mathematics.specs.Tests.{every_entry}
use Rattle.mathematics.specs.Calls.{Call}
use Rattle.triangles.specs.declared.Sides.{Sides}
use Rattle.complex.specs.Complex.{Complex}
use Rattle.complex.specs.Sides.{sides}
use Rattle.gauss_law.specs.Shifts.{triangle_move}
use Rattle.enumeration.specs.Enumeration.{basis_tests, short, basis_first}
use Rattle.gauss_law.specs.Listing.{states}
use Rattle.hilbert.specs.Basis.{place, PlaceKnown}
use Rattle.gauss_law.specs.Gauss.{within}

-- the state at a place after the move of triangle t by u
unfoldable pub moved_state : Complex → ℕ → ℕ → ℤ → ℕ → List ℤ
moved_state c L t u k = triangle_move c t u (get_or (states c L) k [])

-- and after its shift, the move by 1
abbrev pub shifted_state : Complex → ℕ → ℕ → ℕ → List ℤ
shifted_state c L t k = moved_state c L t (pos 1) k

-- the values on the three edges of triangle t are within -L to L
unfoldable pub sides_within : Complex → ℕ → ℕ → List ℤ → Bool
sides_within c L t s = every_entry (λ e. within L (get_or s e (pos 0))) (sides c t)

-- where the move of triangle t by u takes state i: the number of states where one of the three edges leaves -L to L
unfoldable pub target : Complex → ℕ → ℕ → ℤ → ℕ → ℕ
target c L t u i = cond (sides_within c L t (moved_state c L t u i)) (place c L (moved_state c L t u i)) (length (states c L))

-- the shift of triangle t takes state i to state j: its target is listed, and j
unfoldable pub hits : Complex → ℕ → ℕ → ℕ → ℕ → Bool
hits c L t i j = ltb j (length (states c L)) && eqb (target c L t (pos 1) i) j

-- 4, 5, 7 to 10, then 13 for a number that is no triangle's or no state's, 15 for a list that has too few entries for the basis, and 16
-- where one of the triangle's edges leaves -L to L
abbrev pub triangle_tests : Complex → ℕ → ℕ → ℕ → ℕ → List (ℕ × Bool)
triangle_tests c L t k room =
    basis_tests c L
    ++ ((13, leb (length c.triangles) t || leb (length (states c L)) k)
    ∷ (15, short c L room)
    ∷ (16, not (sides_within c L t (shifted_state c L t k)))
    ∷ [])

-- apply_triangle_shift: the place of the shifted state is told, and the list begins with the basis.
unfoldable pub triangle_call : Complex → ℕ → ℕ → ℕ → List ℤ → Call ℕ (List ℤ)
triangle_call c L t k old =
    record {
      tests = triangle_tests c L t k (length old);
      value = place c L (shifted_state c L t k);
      before = old;
      after = basis_first c L old;
      known = PlaceKnown c L (shifted_state c L t k);
    }

-- ---- as the code keeps it
-- three edges of a row, with values to which 1 can be added a few times
pub record Shiftable (row : List ℤ) (s : Sides) : Type 0 where
  pub long : length row ≡ 63
  pub first_below : s.first < 63
  pub second_below : s.second < 63
  pub third_below : s.third < 63
  pub first_small : nat_abs (get_or row s.first (pos 0)) ≤ 1000
  pub second_small : nat_abs (get_or row s.second (pos 0)) ≤ 1000
  pub third_small : nat_abs (get_or row s.third (pos 0)) ≤ 1000
