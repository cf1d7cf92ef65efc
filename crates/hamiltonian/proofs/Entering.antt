-- What the dense matrix's call tells, by the test that decides it.
use Rattle.std.proofs.Common.{◌≡◌, ℕ, ◌*◌, ◌≤◌, Bool, true, false, ◌||◌, List, sym, ◌∙◌, Ok, length}
use native.Mathlib.Nat.{mul-le-mul}
use lib.Dec.{ltb}
use lib.Ieee.{Float}
use borrow.Author.Tests.{ltb-false}
use Rattle.mathematics.specs.Refusals.{first}
use Rattle.mathematics.proofs.Calls.{Tells, none, here, past}
use Rattle.mathematics.proofs.Tests.{or_fell}
use Rattle.answers.specs.Refusal.{refusal_number}
use Rattle.answers.specs.declared.refusal.Refusal.{Refusal}
use Rattle.answers.proofs.Numbers.{number_positive}
use Rattle.complex.specs.declared.SimplicialComplex.{SimplicialComplex}
use Rattle.complex.specs.Complex.{complex_of}
use Rattle.gauss_law.specs.Listing.{states}
use Rattle.matrices.specs.declared.coupling.KSParams.{KSParams}
use Rattle.matrices.specs.Coupling.{u1_right}
use Rattle.matrices.specs.Weights.{weights_tests, Weighed}
use Rattle.matrices.proofs.Weighing.{weights_fit, weights_refuse, past_weights}
use Rattle.walker.specs.Tables.{states_of}
use Rattle.enumeration.specs.declared.basis.Basis.{Basis}
use Rattle.enumeration.specs.Basis.{BasisPrepared}
use Rattle.enumeration.specs.Enumeration.{short}
use Rattle.enumeration.proofs.Bases.{basis_passed}
use Rattle.enumeration.proofs.Enumerating.{short_told}
use Rattle.plaquettes.proofs.Listed.{basis_counted}
use Rattle.plaquettes.proofs.Weighed.{weights_judged}
use Rattle.hamiltonian.specs.Dense.{u1_dense_tests}

module _ (c : SimplicialComplex) (L : ℕ) (p : KSParams) (given : Bool) (weights : List Float) (b : Basis) (right : BasisPrepared (complex_of c) L (Ok b)) (coupling : Bool) (u1 : coupling ≡ u1_right p) (work room : ℕ) where
  -- the coupling or the weights are refused
  pub weights_refused : (e : Refusal) → refusal_number e ≡ first (weights_tests c.n_triangles coupling given weights) → Tells (u1_dense_tests (complex_of c) L p given weights work room) (refusal_number e)
  weights_refused e h = basis_passed right (weights_refuse _ _ _ _ (weights_judged c p given weights coupling u1 h) (number_positive e) _)

  module _ (accepted : 0 ≡ first (weights_tests c.n_triangles coupling given weights)) (n : ℕ) (count : n ≡ length (states_of b.walker b.lambda b.blocks)) where
    passed : first (weights_tests (length (complex_of c).triangles) (u1_right p) given weights) ≡ 0
    passed = sym (weights_judged c p given weights coupling u1 accepted)

    pub weighed : Weighed (length (complex_of c).triangles) given weights
    weighed = weights_fit _ _ _ _ passed

    pub counted : n ≡ length (states (complex_of c) L)
    counted = basis_counted right.basis count

    -- the sizes of the two lists are numbers of the machine
    pub sizes : (n * b.walker.n_edges ≤ 1048576 * 63) × (n * n ≤ 1048576 * 1048576)
    sizes = let few : n ≤ 1048576 = rw counted right.basis.walks.few in (mul-le-mul few right.basis.walks.fit.edges, mul-le-mul few few)

    -- the test of the room is that of the basis and of the matrix
    roomy : (short (complex_of c) L work || ltb room (length (states (complex_of c) L) * length (states (complex_of c) L))) ≡ (ltb work (n * b.walker.n_edges) || ltb room (n * n))
    roomy = rw (short_told _ _ _ _ right.basis.walks work, right.basis.walks.listed, ← counted)

    pub no_room : (ltb work (n * b.walker.n_edges) || ltb room (n * n)) ≡ true → Tells (u1_dense_tests (complex_of c) L p given weights work room) 15
    no_room h = basis_passed right (past_weights _ _ _ _ passed (here (roomy ∙ h)))

    module _ (h : (ltb work (n * b.walker.n_edges) || ltb room (n * n)) ≡ false) where
      pub enough : (n * b.walker.n_edges ≤ work) × (n * n ≤ room)
      enough = let fell = or_fell _ _ h in (ltb-false _ _ fell.0, ltb-false _ _ fell.1)

      pub told : Tells (u1_dense_tests (complex_of c) L p given weights work room) 0
      told = basis_passed right (past_weights _ _ _ _ passed (past (roomy ∙ h) none))
