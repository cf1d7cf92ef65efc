-- What is told of a record's coupling, weights and triangles is what the definitions say of its complex.
use Rattle.std.proofs.Common.{◌≡◌, ℕ, ◌*◌, ◌<◌, ◌≤◌, Bool, true, List, [], ◌∷◌, arith, length}
use lib.Ieee.{Float}
use Rattle.mathematics.specs.Refusals.{first}
use Rattle.complex.specs.declared.SimplicialComplex.{SimplicialComplex}
use Rattle.complex.specs.Complex.{complex_of, entries}
use Rattle.complex.specs.Judge.{Accepted}
use Rattle.matrices.specs.declared.coupling.KSParams.{KSParams}
use Rattle.matrices.specs.Coupling.{u1_right}
use Rattle.matrices.specs.Weights.{weights_tests, vector_tests, Weighed}
use Rattle.matrices.proofs.Weighing.{weight_there}
use Rattle.triangles.specs.declared.Sides.{Sides}
use Rattle.triangles.specs.Indices.{SidesOf, AllSides}
use Rattle.triangles.proofs.AllSides.{own_sides}
use Rattle.triangles.proofs.SidesFound.{triangles_long}

module _ (c : SimplicialComplex) (p : KSParams) (given : Bool) (weights : List Float) (right : Bool) (is : right ≡ u1_right p) where
  pub weights_judged : {k : ℕ} → k ≡ first (weights_tests c.n_triangles right given weights) → k ≡ first (weights_tests (length (complex_of c).triangles) (u1_right p) given weights)
  weights_judged e = rw (triangles_long c, ← is) e

  pub vector_judged : {k : ℕ} (m n : ℕ) → m ≡ n → (vector : List Float) → k ≡ first (vector_tests m vector c.n_triangles right given weights) → k ≡ first (vector_tests n vector (length (complex_of c).triangles) (u1_right p) given weights)
  vector_judged m n same vector e = rw (triangles_long c, ← is, ← same) e

-- ---- a triangle of a record
module _ (c : SimplicialComplex) where
  pub triangles_few : Accepted (complex_of c) → c.n_triangles ≤ 256
  triangles_few accepted = omega (arith, triangles_long c, accepted.few_triangles)

  module _ (t : ℕ) (inside : t < c.n_triangles) where
    there : t < length (complex_of c).triangles
    there = rw (triangles_long c) inside

    pub triangle_weight : (given : Bool) (weights : List Float) → Weighed (length (complex_of c).triangles) given weights → given ≡ true → t < length weights
    triangle_weight given weights weighed = weight_there (length (complex_of c).triangles) given weights weighed t there

    pub triangle_sides : (all : List ℕ) → AllSides (complex_of c) all → (s : Sides) → entries all (3 * t) 3 ≡ s.first ∷ s.second ∷ s.third ∷ [] → SidesOf (complex_of c) t s
    triangle_sides all of s told = own_sides (complex_of c) all of t s there told
