-- Demand 3, both halves: the list of states is complete, and a triangle's shift is refused exactly when it leaves the band.
use Rattle.std.specs.Prelude.{ℕ, ◌*◌, ◌≤◌, ◌<◌, List, [], ◌≡◌, ℤ, pos, nat_abs, Result, get_or, length}
use Rattle.mathematics.specs.Refusals.{Outcome, value, refused}
use Rattle.mathematics.specs.Calls.{Answered}
use Rattle.complex.specs.declared.SimplicialComplex.{SimplicialComplex}
use Rattle.complex.specs.Complex.{Complex, complex_of}
use Rattle.complex.specs.Sides.{TriangleSides, side}
use Rattle.gauss_law.specs.Listing.{Complete, states}
use Rattle.gauss_law.specs.Shifts.{TriangleShifted}
use Rattle.enumeration.specs.Enumeration.{enumerated_call, Answerable, ListingDemand}
use Rattle.answers.specs.Refusal.{answer_of}
use Rattle.answers.specs.declared.refusal.Refusal.{Refusal}
use Rattle.plaquettes.specs.Triangle.{triangle_call}

-- one of the three edges of triangle t has left -L to L: the first, second or third, counted from 0
pub record OutOfBand (c : Complex) (L t : ℕ) (s : List ℤ) : Type 0 where
  pub which : ℕ
  pub one_of_three : which < 3
  pub out : L < nat_abs (get_or s (side c t which) (pos 0))

-- The shift of triangle t on the state at place k of the states ss: `after` is that state after the shift; the call is refused with 16 exactly
-- when one of the three edges has left -L to L, and otherwise answers the place of `after`.
pub record ShiftAnswered (c : Complex) (L : ℕ) (ss : List (List ℤ)) (t k : ℕ) (r : Result ℕ Refusal) : Type 0 where
  pub sides : TriangleSides c t
  pub after : List ℤ
  pub shifted : TriangleShifted c t (get_or ss k []) after
  pub refused_only : answer_of r ≡ refused 16 → OutOfBand c L t after
  pub refused_then : OutOfBand c L t after → answer_of r ≡ refused 16
  pub placed : (OutOfBand c L t after → ⊥) → (p : ℕ) × (answer_of r ≡ value p) × (p < length ss) × (get_or ss p [] ≡ after)

-- Demand 3 of one run of apply_triangle_shift, which its contract says beside its answer: no vertex carries a charge; where a call is to answer, for every triangle and every
-- place below the number of states, with a list that is long enough for them.
pub record ShiftDemand (c : Complex) (L t k : ℕ) (old : List ℤ) (r : Result ℕ Refusal) : Type 0 where
  pub zero : (v : ℕ) → c.charges v ≡ pos 0
  pub answered : Answerable c L → t < length c.triangles → k < length (states c L) → length (states c L) * length c.edges ≤ length old
      → ShiftAnswered c L (states c L) t k r

-- Demand 3: a state's Gauss sum is zero at each vertex; there is the list of all states, and each run of either function goes by it. An answer of `enumerated_call` is what
-- enumerate_gauge_invariant ensures, and one of `triangle_call` what apply_triangle_shift ensures; both ensure the demand of the run besides
-- (`ListingDemand`, enumeration/specs/Enumeration, and `ShiftDemand`).
pub record Demand (c : Complex) (L : ℕ) : Type 0 where
  pub zero : (v : ℕ) → c.charges v ≡ pos 0
  pub complete : Complete c c.charges L (states c L)
  pub lists : (old new : List ℤ) (a : Outcome ℕ) → Answered (enumerated_call c L old) a new → ListingDemand c L old new a
  pub shifts : (t k : ℕ) (old new : List ℤ) (r : Result ℕ Refusal) → Answered (triangle_call c L t k old) (answer_of r) new → ShiftDemand c L t k old r

-- for every accepted complex and truncation with the candidates within the limit
abbrev pub Demand3 : Type 0
Demand3 = (c : SimplicialComplex) (L : ℕ) → Answerable (complex_of c) L → Demand (complex_of c) L
