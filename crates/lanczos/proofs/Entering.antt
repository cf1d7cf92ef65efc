-- What the call for a product tells, by the test that decides it.
use Rattle.std.proofs.Common.{◌≡◌, ℕ, ◌*◌, ◌≤◌, Bool, true, false, ◌||◌, List, sym, ◌∙◌, Ok, length}
use native.Mathlib.Nat.{mul-le-mul}
use lib.Dec.{ltb}
use lib.Ieee.{Float}
use borrow.Author.Tests.{ltb-false}
use Rattle.mathematics.specs.Refusals.{first}
use Rattle.mathematics.proofs.Calls.{Tells, none, here, past}
use Rattle.mathematics.proofs.Tests.{or_fell}
use Rattle.answers.specs.Refusal.{refusal_number}
use Rattle.answers.specs.declared.refusal.Refusal.{Refusal}
use Rattle.answers.proofs.Numbers.{number_positive}
use Rattle.complex.specs.declared.SimplicialComplex.{SimplicialComplex}
use Rattle.complex.specs.Complex.{complex_of}
use Rattle.gauss_law.specs.Listing.{states}
use Rattle.matrices.specs.declared.coupling.KSParams.{KSParams}
use Rattle.matrices.specs.Coupling.{u1_right}
use Rattle.matrices.specs.Weights.{vector_tests, Weighed}
use Rattle.matrices.proofs.Vectors.{weights_fit, vector_fits, vector_refuses, past_vector}
use Rattle.walker.specs.Tables.{states_of}
use Rattle.enumeration.specs.declared.basis.Basis.{Basis}
use Rattle.enumeration.specs.Basis.{BasisPrepared}
use Rattle.enumeration.specs.Enumeration.{short}
use Rattle.enumeration.proofs.Bases.{basis_passed}
use Rattle.enumeration.proofs.Enumerating.{short_told}
use Rattle.plaquettes.proofs.Listed.{basis_counted}
use Rattle.plaquettes.proofs.Weighed.{vector_judged}
use Rattle.lanczos.specs.Matvec.{u1_product_tests}

module _ (c : SimplicialComplex) (L : ℕ) (p : KSParams) (given : Bool) (weights vector : List Float) (b : Basis) (right : BasisPrepared (complex_of c) L (Ok b)) (n : ℕ) (count : n ≡ length (states_of b.walker b.lambda b.blocks)) (coupling : Bool) (u1 : coupling ≡ u1_right p) (work room : ℕ) where
  counted : n ≡ length (states (complex_of c) L)
  counted = basis_counted right.basis count

  -- the coupling, the weights or the vector are refused
  pub vector_refused : (e : Refusal) → refusal_number e ≡ first (vector_tests n vector c.n_triangles coupling given weights) → Tells (u1_product_tests (complex_of c) L p given weights vector work room) (refusal_number e)
  vector_refused e h = basis_passed right (vector_refuses _ _ _ _ _ _ (vector_judged c p given weights coupling u1 _ _ counted vector h) (number_positive e) _)

  module _ (accepted : 0 ≡ first (vector_tests n vector c.n_triangles coupling given weights)) where
    passed : first (vector_tests (length (states (complex_of c) L)) vector (length (complex_of c).triangles) (u1_right p) given weights) ≡ 0
    passed = sym (vector_judged c p given weights coupling u1 _ _ counted vector accepted)

    pub weighed : Weighed (length (complex_of c).triangles) given weights
    weighed = weights_fit _ _ _ _ _ _ passed

    pub vector_long : length vector ≡ n
    vector_long = vector_fits _ _ _ _ _ _ passed ∙ sym counted

    -- the size of the work list is a number of the machine
    pub size : n * b.walker.n_edges ≤ 1048576 * 63
    size = let few : n ≤ 1048576 = rw counted right.basis.walks.few in mul-le-mul few right.basis.walks.fit.edges

    -- the test of the room is that of the basis and of the product
    roomy : (short (complex_of c) L work || ltb room (length (states (complex_of c) L))) ≡ (ltb work (n * b.walker.n_edges) || ltb room n)
    roomy = rw (short_told _ _ _ _ right.basis.walks work, right.basis.walks.listed, ← counted)

    pub no_room : (ltb work (n * b.walker.n_edges) || ltb room n) ≡ true → Tells (u1_product_tests (complex_of c) L p given weights vector work room) 15
    no_room h = basis_passed right (past_vector _ _ _ _ _ _ passed (here (roomy ∙ h)))

    module _ (h : (ltb work (n * b.walker.n_edges) || ltb room n) ≡ false) where
      pub enough : (n * b.walker.n_edges ≤ work) × (n ≤ room)
      enough = let fell = or_fell _ _ h in (ltb-false _ _ fell.0, ltb-false _ _ fell.1)

      pub told : Tells (u1_product_tests (complex_of c) L p given weights vector work room) 0
      told = basis_passed right (past_vector _ _ _ _ _ _ passed (past (roomy ∙ h) none))
