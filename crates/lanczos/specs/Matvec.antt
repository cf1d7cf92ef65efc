-- The product of the U(1) Hamiltonian with a vector, without the matrix: sums of floats in a fixed order, with one rounding an operation.
use Rattle.std.specs.Prelude.{ℕ, zero, suc, ◌≤◌, List, [], ◌∷◌, ◌++◌, map, Bool, ◌||◌, cond, ltb, ℤ, pos, Float, get_or, length, set}
use Rattle.std.specs.Float.{binary64, nan}
use Rattle.std.specs.Float.Ieee.{add, mul}
use Rattle.mathematics.specs.Counting.{below}
use Rattle.mathematics.specs.Writing.{front}
use Rattle.mathematics.specs.Calls.{Call}
use Rattle.complex.specs.Complex.{Complex}
use Rattle.enumeration.specs.Enumeration.{basis_tests, short, basis_first}
use Rattle.gauss_law.specs.Listing.{states, limit}
use Rattle.matrices.specs.declared.coupling.KSParams.{KSParams}
use Rattle.matrices.specs.Coupling.{float_of, u1_right}
use Rattle.matrices.specs.Weights.{weight, vector_tests}
use Rattle.matrices.specs.Terms.{row_plaquette_term}
use Rattle.matrices.specs.Squares.{squares, energy}
use Rattle.plaquettes.specs.Triangle.{target}

-- from 0.0, the electric part: (electric factor × the sum of squares) × v
unfoldable pub electric_product : Complex → ℕ → KSParams → List Float → List Float
electric_product c L p v =
    map (λ i. add binary64 (float_of 0) (mul binary64 (energy p.electric (squares (get_or (states c L) i []))) (get_or v i nan))) (below (length (states c L)))

-- y is added to entry i
abbrev pub with_more : ℕ → Float → List Float → List Float
with_more i y r = set r i (add binary64 (get_or r i nan) y)

-- where a triangle takes state i to j: x times v at j into i, then x times v at i into j
unfoldable pub with_hit : Float → List Float → ℕ → ℕ → List Float → List Float
with_hit x v i j r = with_more j (mul binary64 x (get_or v i nan)) (with_more i (mul binary64 x (get_or v j nan)) r)

-- so for each of the first n states, rising, that triangle t takes to a state; x is what the triangle gives
unfoldable pub states_added : Complex → ℕ → ℕ → Float → List Float → ℕ → List Float → List Float
states_added c L t x v zero r = r
states_added c L t x v (suc i) r =
    cond (ltb (target c L t (pos 1) i) (length (states c L)))
    (with_hit x v i (target c L t (pos 1) i) (states_added c L t x v i r)) (states_added c L t x v i r)

-- for each of the first n triangles, rising, all states
unfoldable pub triangles_added : Complex → ℕ → KSParams → (ℕ → Float) → List Float → ℕ → List Float → List Float
triangles_added c L p w v zero r = r
triangles_added c L p w v (suc t) r = states_added c L t (row_plaquette_term p (w t)) v (length (states c L)) (triangles_added c L p w v t r)

-- the product: the electric part, then all triangles
unfoldable pub u1_product : Complex → ℕ → KSParams → (ℕ → Float) → List Float → List Float
u1_product c L p w v = triangles_added c L p w v (length c.triangles) (electric_product c L p v)

-- 4, 5, 7 to 10, then 12 and 14, and 15 for a list that has too few entries for the basis or for the product
abbrev pub u1_product_tests : Complex → ℕ → KSParams → Bool → List Float → List Float → ℕ → ℕ → List (ℕ × Bool)
u1_product_tests c L p given weights v work-room result_room =
    basis_tests c L
    ++ (vector_tests (length (states c L)) v (length c.triangles) (u1_right p) given weights
    ++ ((15, short c L work-room || ltb result_room (length (states c L))) ∷ []))

-- hamiltonian_matvec: the number of states is told, and the two lists begin with the basis and with the product.
unfoldable pub u1_product_call : Complex → ℕ → KSParams → Bool → List Float → List Float → List ℤ → List Float → Call ℕ (List ℤ × List Float)
u1_product_call c L p given weights v work result =
    record {
      tests = u1_product_tests c L p given weights v (length work) (length result);
      value = length (states c L);
      before = (work, result);
      after = (basis_first c L work, front (u1_product c L p (weight given weights) v) result);
      known = length (states c L) ≤ limit;
    }
