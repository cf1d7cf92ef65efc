-- What the call for row lists tells, by the test that decides it.
use Rattle.std.proofs.Common.{◌≡◌, ℕ, ◌+◌, ◌*◌, ◌≤◌, Bool, true, false, ◌||◌, List, sym, ◌∙◌, Ok, length}
use native.Mathlib.Nat.{mul-le-mul}
use lib.Dec.{ltb}
use lib.Ieee.{Float}
use borrow.Author.Tests.{ltb-false}
use Rattle.mathematics.specs.Refusals.{first}
use Rattle.mathematics.proofs.Calls.{Tells, none, here, past}
use Rattle.mathematics.proofs.Tests.{or_fell}
use Rattle.answers.specs.Refusal.{refusal_number}
use Rattle.answers.specs.declared.refusal.Refusal.{Refusal}
use Rattle.answers.proofs.Numbers.{number_positive}
use Rattle.complex.specs.declared.SimplicialComplex.{SimplicialComplex}
use Rattle.complex.specs.Complex.{complex_of}
use Rattle.gauss_law.specs.Listing.{states}
use Rattle.matrices.specs.declared.coupling.KSParams.{KSParams}
use Rattle.matrices.specs.Coupling.{u1_right}
use Rattle.matrices.specs.Weights.{weight, weights_tests, Weighed}
use Rattle.matrices.proofs.Weighing.{weights_fit, weights_refuse, past_weights}
use Rattle.rows.proofs.SortedRows.{coupling_fits}
use Rattle.triangles.specs.Indices.{AllSides}
use Rattle.triangles.proofs.SidesFound.{triangles_long}
use Rattle.walker.specs.Tables.{states_of}
use Rattle.enumeration.specs.declared.basis.Basis.{Basis}
use Rattle.enumeration.specs.Basis.{BasisPrepared}
use Rattle.enumeration.specs.Enumeration.{short}
use Rattle.enumeration.proofs.Bases.{basis_passed}
use Rattle.enumeration.proofs.Enumerating.{short_told}
use Rattle.plaquettes.proofs.Listed.{basis_counted}
use Rattle.plaquettes.proofs.Weighed.{weights_judged}
use Rattle.entries.specs.Count.{over_states, row_entries, AllCountable}
use Rattle.entries.specs.Rows.{csr_entries}
use Rattle.entries.proofs.Counting.{all_countable, counted_entries}
use Rattle.entries.proofs.KeptDiagonals.{right_low}
use Rattle.entries.proofs.EntryNumbers.{entries_same}
use Rattle.csr.specs.Csr.{csr_tests}

module _ (c : SimplicialComplex) (L : ℕ) (p : KSParams) (given : Bool) (weights : List Float) (b : Basis) (right : BasisPrepared (complex_of c) L (Ok b)) (coupling : Bool) (u1 : coupling ≡ u1_right p) (work starts columns values : ℕ) where
  -- the coupling or the weights are refused
  pub weights_refused : (e : Refusal) → refusal_number e ≡ first (weights_tests c.n_triangles coupling given weights) → Tells (csr_tests (complex_of c) L p given weights work starts columns values) (refusal_number e)
  weights_refused e h = basis_passed right (weights_refuse _ _ _ _ (weights_judged c p given weights coupling u1 h) (number_positive e) _)

  module _ (accepted : 0 ≡ first (weights_tests c.n_triangles coupling given weights)) (n : ℕ) (count : n ≡ length (states_of b.walker b.lambda b.blocks)) where
    passed : first (weights_tests (length (complex_of c).triangles) (u1_right p) given weights) ≡ 0
    passed = sym (weights_judged c p given weights coupling u1 accepted)

    pub weighed : Weighed (length (complex_of c).triangles) given weights
    weighed = weights_fit _ _ _ _ passed

    pub counted : n ≡ length (states (complex_of c) L)
    counted = basis_counted right.basis count

    -- the sizes of the lists are numbers of the machine
    pub sizes : (n * b.walker.n_edges ≤ 1048576 * 63) × (n ≤ 1048576)
    sizes = let few : n ≤ 1048576 = rw counted right.basis.walks.few in (mul-le-mul few right.basis.walks.fit.edges, few)

    module _ (all : List ℕ) (sides : AllSides (complex_of c) all) where
      pub countable : AllCountable b.lambda (states_of b.walker b.lambda b.blocks) all c.n_triangles
      countable =
          let of = right.basis.walks in
          rw right.basis.truncated (all_countable _ of.walks.accepted _ of.truncation _ sides _ of.listed _ (sym (triangles_long c)) of.few)

      module _ (entries : ℕ) (found : entries ≡ over_states (row_entries b.lambda all c.n_triangles) (states_of b.walker b.lambda b.blocks)) where
        -- as many entries are counted as the rows have
        pub entries_told : entries ≡ csr_entries (complex_of c) L p (weight given weights)
        entries_told =
            let of = right.basis.walks in
            rw right.basis.truncated at found
            ∙ counted_entries (complex_of c) of.walks.accepted L of.truncation all sides _ of.listed _ (sym (triangles_long c))
            ∙ sym (entries_same (complex_of c) of.walks.accepted L of.truncation p (weight given weights) (right_low p (coupling_fits _ _ _ _ passed)))

        -- the test of the room is that of the four lists
        roomy : (short (complex_of c) L work || (ltb starts (length (states (complex_of c) L) + 1) || (ltb columns (csr_entries (complex_of c) L p (weight given weights)) || ltb values (csr_entries (complex_of c) L p (weight given weights)))))
            ≡ (ltb work (n * b.walker.n_edges) || (ltb starts (n + 1) || (ltb columns entries || ltb values entries)))
        roomy = rw (short_told _ _ _ _ right.basis.walks work, right.basis.walks.listed, ← counted, ← entries_told)

        pub no_room : (ltb work (n * b.walker.n_edges) || (ltb starts (n + 1) || (ltb columns entries || ltb values entries))) ≡ true → Tells (csr_tests (complex_of c) L p given weights work starts columns values) 15
        no_room h = basis_passed right (past_weights _ _ _ _ passed (here (roomy ∙ h)))

        module _ (h : (ltb work (n * b.walker.n_edges) || (ltb starts (n + 1) || (ltb columns entries || ltb values entries))) ≡ false) where
          pub enough : (n * b.walker.n_edges ≤ work) × (n + 1 ≤ starts) × (entries ≤ columns) × (entries ≤ values)
          enough =
              let first_fell = or_fell _ _ h in
              let second_fell = or_fell _ _ first_fell.1 in
              let third_fell = or_fell _ _ second_fell.1 in
              (ltb-false _ _ first_fell.0, ltb-false _ _ second_fell.0, ltb-false _ _ third_fell.0, ltb-false _ _ third_fell.1)

          pub told : Tells (csr_tests (complex_of c) L p given weights work starts columns values) 0
          told = basis_passed right (past_weights _ _ _ _ passed (past (roomy ∙ h) none))
