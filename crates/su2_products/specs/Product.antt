-- The product of the two-valued Hamiltonian with a vector, without a matrix. The vector has one amplitude for each state; each sum of floats has a
-- fixed order, with one rounding an operation.
use Rattle.std.specs.Prelude.{ℕ, zero, suc, ◌+◌, ◌≤◌, ◌<◌, List, [], ◌∷◌, ◌++◌, map, Bool, ◌||◌, ◌≡◌, ltb, Float, get_or, length}
use Rattle.std.specs.Int.Bits.{bit_xor}
use Rattle.std.specs.Int.Count.{ones}
use Rattle.std.specs.Float.{binary64, nan}
use Rattle.std.specs.Float.Ieee.{add, mul}
use Rattle.mathematics.specs.Counting.{below}
use Rattle.mathematics.specs.Writing.{front}
use Rattle.mathematics.specs.Calls.{Call}
use Rattle.complex.specs.Complex.{Complex}
use Rattle.matrices.specs.declared.coupling.KSParams.{KSParams}
use Rattle.matrices.specs.Coupling.{float_of, su2_right}
use Rattle.matrices.specs.Weights.{weight, vector_tests}
use Rattle.matrices.specs.Squares.{energy}
use Rattle.gauss_law.specs.Listing.{limit}
use Rattle.su2_even_sets.specs.declared.Forest.{Forest}
use Rattle.su2_even_sets.specs.EvenSets.{su2_states}
use Rattle.su2_masks.specs.Basis.{su2_tests}
use Rattle.su2_masks.specs.Flips.{su2_target}
use Rattle.su2_masks.specs.Place.{FewLoops}
use Rattle.su2_rows.specs.Rows.{su2_diagonal}

-- from 0.0; the diagonal of state i × its amplitude is added
unfoldable pub su2_electric_part : Complex → KSParams → List Float → ℕ → Float
su2_electric_part c p vector i = add binary64 (float_of 0) (mul binary64 (su2_diagonal c p i) (get_or vector i nan))

-- then each of the first n triangles, rising, adds its magnetic factor × weight, times the amplitude of the state to which it flips i
unfoldable pub su2_product_at : Complex → KSParams → (ℕ → Float) → List Float → ℕ → ℕ → Float
su2_product_at c p w vector zero i = su2_electric_part c p vector i
su2_product_at c p w vector (suc t) i =
    add binary64 (su2_product_at c p w vector t i) (mul binary64 (mul binary64 p.magnetic (w t)) (get_or vector (su2_target c t i) nan))

-- of all states, with all triangles
unfoldable pub su2_product : Complex → KSParams → (ℕ → Float) → List Float → List Float
su2_product c p w vector = map (su2_product_at c p w vector (length c.triangles)) (below (length (su2_states c)))

-- ---- the call
-- 4 and 7 to 10 as for the basis, then 12 and 14 for the weights, the coupling and the amplitudes, and 15 where the list of states or the
-- result is too short
abbrev pub su2_product_tests : Complex → KSParams → Bool → List Float → List Float → ℕ → ℕ → List (ℕ × Bool)
su2_product_tests c p given weights vector work-room result_room =
    su2_tests c
    ++ (vector_tests (length (su2_states c)) vector (length c.triangles) (su2_right p) given weights
    ++ ((15, ltb work-room (length (su2_states c)) || ltb result_room (length (su2_states c))) ∷ []))

-- su2_hamiltonian_matvec: the number of states is told, and the two lists begin with the masks, ascending, and with the product.
unfoldable pub su2_product_call : Complex → KSParams → Bool → List Float → List Float → List ℕ → List Float → Call ℕ (List ℕ × List Float)
su2_product_call c p given weights vector work result =
    record {
      tests = su2_product_tests c p given weights vector (length work) (length result);
      value = length (su2_states c);
      before = (work, result);
      after = (front (su2_states c) work, front (su2_product c p (weight given weights) vector) result);
      known = length (su2_states c) ≤ limit;
    }

-- ---- as the code keeps it
-- the electric part of state i, by the list of states
unfoldable pub listed_part : Float → List ℕ → List Float → ℕ → Float
listed_part electric states vector i = add binary64 (float_of 0) (mul binary64 (energy electric (ones (get_or states i 0))) (get_or vector i nan))

-- what a triangle adds at place i, which it flips to i xor k: its term times the amplitude there
abbrev pub flip_part : Float → List Float → ℕ → ℕ → Float
flip_part term vector k i = mul binary64 term (get_or vector (bit_xor i k) nan)

-- the electric part, and what the first n triangles add, by their tables
unfoldable pub listed_product_at : Float → List ℕ → List ℕ → List Float → List Float → ℕ → ℕ → Float
listed_product_at electric states places terms vector zero i = listed_part electric states vector i
listed_product_at electric states places terms vector (suc t) i =
    add binary64 (listed_product_at electric states places terms vector t i) (flip_part (get_or terms t nan) vector (get_or places t 0) i)

-- some amplitudes and states from a place on, and tables of n triangles whose flips lead from there to an amplitude
pub record BlockFits (from room : ℕ) (states places : List ℕ) (terms vector : List Float) (n : ℕ) : Type 0 where
  pub few_triangles : n ≤ 256
  pub states_long : from + room ≤ length states
  pub vector_long : from + room ≤ length vector
  pub within : (i t : ℕ) → i < from + room → t < n → bit_xor i (get_or places t 0) < length vector

-- the loops of an accepted complex that has n states, and room for a vector of them
pub record ProductOf (c : Complex) (f : Forest) (n vector_long room : ℕ) : Type 0 where
  pub loops : FewLoops c f
  pub states : n ≡ length (su2_states c)
  pub amplitudes : vector_long ≡ n
  pub long : n ≤ room
