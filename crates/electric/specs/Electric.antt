-- The square of the electric field on each edge, expected in a state that is given by its amplitudes.
use Rattle.std.specs.Prelude.{ℕ, zero, suc, ◌<◌, ◌≤◌, List, [], ◌∷◌, ◌++◌, map, Bool, not, ◌||◌, ◌≡◌, eqb, ltb, ℤ, pos, Float, get_or, length}
use Rattle.std.specs.Float.{binary64, nan}
use Rattle.std.specs.Float.Ieee.{of_int, add, mul}
use Rattle.mathematics.specs.Tests.{every_entry}
use Rattle.mathematics.specs.Counting.{below}
use Rattle.mathematics.specs.Writing.{front}
use Rattle.mathematics.specs.Calls.{Call}
use Rattle.complex.specs.Complex.{Complex}
use Rattle.gauss_law.specs.Listing.{states}
use Rattle.enumeration.specs.Enumeration.{basis_tests, short, basis_first}
use Rattle.matrices.specs.Coupling.{float_of}
use Rattle.matrices.specs.Weights.{bounded}

-- (square × n) × n
unfoldable pub field_term : Float → ℤ → Float
field_term square n = mul binary64 (mul binary64 square (of_int binary64 n)) (of_int binary64 n)

-- from 0.0 the first states, rising, add ((amplitude × amplitude) × n) × n each; n is the value of the state on an edge, `on i` for state i
unfoldable pub field_sum : List Float → (ℕ → ℤ) → ℕ → Float
field_sum a on zero = float_of 0
field_sum a on (suc i) = add binary64 (field_sum a on i) (field_term (mul binary64 (get_or a i nan) (get_or a i nan)) (on i))

-- the sum of all states, for each edge
unfoldable pub field_squares : Complex → ℕ → List Float → List Float
field_squares c L a = map (λ e. field_sum a (λ i. get_or (get_or (states c L) i []) e (pos 0)) (length (states c L))) (below (length c.edges))

-- ---- the call
-- 4, 5, 7 to 10, then 12 where the amplitudes are not one for each state, 14 where one is out of its range, and 15 for a list that has too
-- few entries for the basis or for the edges
abbrev pub electric_tests : Complex → ℕ → List Float → ℕ → ℕ → List (ℕ × Bool)
electric_tests c L a work-room result_room =
    basis_tests c L
    ++ ((12, not (eqb (length a) (length (states c L))))
    ∷ (14, not (every_entry bounded a))
    ∷ (15, short c L work-room || ltb result_room (length c.edges))
    ∷ [])

-- electric_field_sq: the number of edges is told, and the two lists begin with the basis and with the squares.
unfoldable pub electric_call : Complex → ℕ → List Float → List ℤ → List Float → Call ℕ (List ℤ × List Float)
electric_call c L a work result =
    record {
      tests = electric_tests c L a (length work) (length result);
      value = length c.edges;
      before = (work, result);
      after = (basis_first c L work, front (field_squares c L a) result);
      known = length c.edges ≤ 63;
    }

-- ---- as the code keeps it
-- the list begins with m floats, f e at e, and keeps what stood after them
pub record Begins (f : ℕ → Float) (m : ℕ) (old new : List Float) : Type 0 where
  pub long : length new ≡ length old
  pub entries : (e : ℕ) → e < m → get_or new e nan ≡ f e
  pub beyond : (e : ℕ) → m ≤ e → get_or new e nan ≡ get_or old e nan
