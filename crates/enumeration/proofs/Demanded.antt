-- What demand 3 says of a run of enumerate_gauge_invariant follows from its answer.
use Prim.Native.Nat.{ℕ, zero, suc, ◌+◌, ◌*◌, ◌^◌, ◌≤◌}
use mathlib.Core.List.{List, [], ◌∷◌}
use mathlib.Core.Bool.{Bool, true, false, cond}
use mathlib.Core.Path.{◌≡◌, refl, sym, ◌∙◌}
use native.Mathlib.Omega.{arith}
use borrow.Author.Tests.{le-ltb, ltb-false}
use lib.IntN.{ℤ}
use lib.ListN.{length}
use Rattle.mathematics.specs.Tests.{every_entry}
use Rattle.mathematics.specs.Refusals.{Outcome, first, outcome, written}
use Rattle.mathematics.specs.Calls.{Answered}
use Rattle.mathematics.proofs.Refusals.{numbered, first_stops, first_goes_on}
use Rattle.mathematics.proofs.Calls.{Tells, none, past, past_all}
use Rattle.complex.specs.declared.SimplicialComplex.{SimplicialComplex}
use Rattle.complex.specs.Complex.{Complex, complex_of}
use Rattle.complex.specs.Judge.{refusal, truncated_tests}
use Rattle.complex.proofs.Judging.{with_truncation, truncated_passed}
use Rattle.complex.proofs.Refusing.{past_truncated}
use Rattle.complex.proofs.Accepting.{accepted}
use Rattle.gauss_law.specs.Listing.{free_edges, states}
use Rattle.gauss_law.proofs.Accepted.{listing_complete}
use Rattle.enumeration.specs.Enumeration.{limit_test, basis_tests, short, basis_first, enumerated_call, Answerable, ListingDemand}

-- a list that is long enough
pub not_short : (c : Complex) (L room : ℕ) → length (states c L) * length c.edges ≤ room → short c L room ≡ false
unfolding short
not_short c L room h = le-ltb room (length (states c L) * length c.edges) h

-- where a call is to answer, its basis is not refused
pub basis_none : (c : SimplicialComplex) (L : ℕ) → Answerable (complex_of c) L → first (basis_tests (complex_of c) L) ≡ 0
basis_none c L can =
    let judged : refusal (complex_of c) ≡ 0 = (accepted c).1 can.accepted in
    let right : first (truncated_tests (complex_of c) L) ≡ 0 = with_truncation c L ∙ rw (judged, le-ltb 1000 L can.truncation) in
    (past_truncated (complex_of c) L right (past (le-ltb 1048576 ((2 * L + 1) ^ length (free_edges (complex_of c))) can.candidates) none)).number

-- and the other way round
pub none_answerable : (c : SimplicialComplex) (L : ℕ) → first (basis_tests (complex_of c) L) ≡ 0 → Answerable (complex_of c) L
unfolding first numbered every_entry
none_answerable c L passed = go (first (truncated_tests (complex_of c) L)) refl
  where
    within : (b : Bool) → ◌≡◌ {A = ℕ} (cond b 10 0) 0 → b ≡ false
    within true h = absurd (omega (arith, h))
    within false h = refl

    go : (k : ℕ) → first (truncated_tests (complex_of c) L) ≡ k → Answerable (complex_of c) L
    go zero e =
        let judged = truncated_passed c L e in
        let limited = sym (first_goes_on (truncated_tests (complex_of c) L) (limit_test (complex_of c) L ∷ []) refl e) ∙ passed in
        record { accepted = (accepted c).0 judged.0; truncation = judged.1; candidates = ltb-false 1048576 ((2 * L + 1) ^ length (free_edges (complex_of c))) (within _ limited) }
    go (suc k) e = absurd (omega (arith, sym (first_stops (truncated_tests (complex_of c) L) (limit_test (complex_of c) L ∷ []) (λ z. omega (arith, e, z)) ∙ e) ∙ passed))

listed : (c : SimplicialComplex) (L : ℕ) (old : List ℤ) → Answerable (complex_of c) L → length (states (complex_of c) L) * length (complex_of c).edges ≤ length old → Tells (enumerated_call (complex_of c) L old).tests 0
unfolding enumerated_call numbered every_entry
listed c L old can long = past_all (basis_tests (complex_of c) L) refl (basis_none c L can) (past (not_short (complex_of c) L (length old) long) none)

pub demanded : (c : SimplicialComplex) (L : ℕ) (old new : List ℤ) (a : Outcome ℕ) → Answered (enumerated_call (complex_of c) L old) a new → Answered (enumerated_call (complex_of c) L old) a new × ListingDemand (complex_of c) L old new a
unfolding enumerated_call states basis_first outcome written complex_of
demanded c L old new a h = (
  h,
  record {
    zero = λ v. refl;
    complete = λ can. listing_complete (complex_of c) can.accepted (complex_of c).charges L;
    answer = λ can long. rw (listed c L old can long).number at h.answer;
    list = λ can long. rw (listed c L old can long).number at h.lists;
  },
)
