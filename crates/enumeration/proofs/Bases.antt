-- What preparing a basis tells, by the test that decides it, and what a call tells of whose tests they are the first.
use Rattle.std.proofs.Common.{◌≡◌, ℕ, ◌+◌, ◌*◌, ◌-◌, ◌^◌, ◌≤◌, Bool, true, List, [], ◌∷◌, ◌++◌, refl, Result, Ok, Err, IsErrAnd, ltb, sym, ◌∙◌, ℤ, length, ap, ne_eqb}
use Rattle.std.proofs.lemmas.Result.{err_from_is_err_and}
use Rattle.mathematics.specs.Tests.{every_entry}
use Rattle.mathematics.specs.Refusals.{first, value}
use Rattle.mathematics.proofs.Refusals.{numbered, first_stops}
use Rattle.mathematics.specs.Calls.{Answered, none_lent}
use Rattle.mathematics.proofs.Calls.{Tells, none, among, past_all, refuses, ends}
use Rattle.complex.specs.declared.SimplicialComplex.{SimplicialComplex}
use Rattle.complex.specs.Complex.{Complex, complex_of}
use Rattle.complex.specs.Judge.{refusal, truncated_tests}
use Rattle.complex.proofs.Judging.{truncated_passed}
use Rattle.answers.specs.Refusal.{refusal_number, answer_of}
use Rattle.answers.proofs.Passing.{answer_passed}
use Rattle.answers.specs.declared.refusal.Refusal.{Refusal}
use Rattle.answers.specs.declared.refusal.Refusal.TheVariants.{ManyCandidates}
use Rattle.answers.proofs.Numbers.{number_positive}
use Rattle.walker.specs.declared.tables.Walker.{Walker}
use Rattle.gauss_law.specs.Listing.{states}
use Rattle.walker.specs.Blocks.{StatesWritten}
use Rattle.walker.specs.Tables.{Walks, Fit, states_of}
use Rattle.enumeration.specs.declared.basis.Basis.{Basis}
use Rattle.enumeration.specs.Enumeration.{limit_test, basis_tests, short, basis_first, BasisKnown, counted_call}
use Rattle.enumeration.specs.Basis.{BasisPrepared}
use Rattle.enumeration.proofs.Enumerating.{by_candidates, basis_accepted, basis_walks, short_told, basis_written, basis_known}

-- ---- preparing
module _ (c : Complex) (L : ℕ) where
  -- a refusal of the record or of the truncation is passed on
  pub refusal_passed : (r : Result Basis Refusal) (e : Refusal) → IsErrAnd r (λ y. y ≡ e) → refusal_number e ≡ first (truncated_tests c L) → BasisPrepared c L r
  refusal_passed r e h t =
      let p = err_from_is_err_and r h in
      let stops = first_stops (truncated_tests c L) (limit_test c L ∷ []) (λ z. number_positive e (t ∙ z)) in
      rw (p.1, p.2) (record { refusal = t ∙ sym stops; basis = tt })

pub record_passed : (c : SimplicialComplex) (L : ℕ) → 0 ≡ first (truncated_tests (complex_of c) L) → (refusal (complex_of c) ≡ 0) × (L ≤ 1000)
record_passed c L h = truncated_passed c L (sym h)

module _ (c : SimplicialComplex) (L : ℕ) (passed : 0 ≡ first (truncated_tests (complex_of c) L)) (w : Walker) (walks : Walks (complex_of c) L w) where
  -- too many candidates
  pub many_refused : ltb 1048576 ((2 * L + 1) ^ w.n_free) ≡ true → BasisPrepared (complex_of c) L (Err ManyCandidates)
  many_refused h = record { refusal = sym (by_candidates _ L (sym passed) (record_passed c L passed).1 w walks ∙ rw h); basis = tt }

  module _ (within : (2 * L + 1) ^ w.n_free ≤ 1048576) (blocks : ℕ) (number : blocks ≡ (2 * L + 1) ^ (w.n_free - 1)) where
    pub basis_fits : Fit w L blocks
    basis_fits = (basis_walks _ L (sym passed) (record_passed c L passed).1 w walks within blocks number).fit

    pub basis_ready : (b : Basis) → b.walker ≡ w → b.lambda ≡ L → b.blocks ≡ blocks → BasisPrepared (complex_of c) L (Ok b)
    basis_ready b e f g = record {
      refusal = basis_accepted _ L (sym passed) (record_passed c L passed).1 w walks within blocks number;
      basis = record { truncated = f; walks = rw (e, g) (basis_walks _ L (sym passed) (record_passed c L passed).1 w walks within blocks number) };
    }

-- ---- a call whose first tests are those of a basis
module _ {c : Complex} {L : ℕ} where
  -- the basis is refused
  pub basis_refused : {e : Refusal} → BasisPrepared c L (Err e) → (rest : List (ℕ × Bool)) → Tells (basis_tests c L ++ rest) (refusal_number e)
  basis_refused {e} h rest = among (basis_tests c L) rest h.refusal (number_positive e)

  -- or the rest decides
  pub basis_passed : {b : Basis} → BasisPrepared c L (Ok b) → {rest : List (ℕ × Bool)} {k : ℕ} → Tells rest k → Tells (basis_tests c L ++ rest) k
  unfolding numbered every_entry
  basis_passed h t = past_all (basis_tests c L) refl (sym h.refusal) t

-- ---- what a prepared basis counts and lists
module _ (c : Complex) (L : ℕ) (b : Basis) (h : BasisPrepared c L (Ok b)) where
  abbrev its_states : List (List ℤ)
  its_states = states_of b.walker b.lambda b.blocks

  pub basis_listed : its_states ≡ states c L
  basis_listed = rw h.basis.truncated h.basis.walks.listed

  pub basis_short : (room : ℕ) → short c L room ≡ ltb room (length its_states * b.walker.n_edges)
  basis_short room = rw h.basis.truncated (short_told c L b.walker b.blocks h.basis.walks room)

  pub basis_lists : (old new : List ℤ) (r : ℕ) → StatesWritten its_states old new r → (r ≡ length (states c L)) × (new ≡ basis_first c L old)
  basis_lists old new r w = basis_written c L b.walker b.blocks h.basis.walks old new r (rw h.basis.truncated at w)

  pub basis_is_known : BasisKnown c L
  basis_is_known = basis_known c L b.walker b.blocks h.basis.walks

  pub count_told : (k : ℕ) → k ≡ length its_states → Answered (counted_call c L) (value k) none_lent
  unfolding counted_call
  count_told k e = ends (counted_call c L) (basis_passed h none) (e ∙ ap length basis_listed) refl basis_is_known

pub count_refused : (c : Complex) (L : ℕ) (e : Refusal) → BasisPrepared c L (Err e) → (r : Result ℕ Refusal) → IsErrAnd r (λ y. y ≡ e) → Answered (counted_call c L) (answer_of r) none_lent
unfolding counted_call
count_refused c L e h r p = rw (answer_passed r e p) (refuses (counted_call c L) (basis_refused h []) (ne_eqb (refusal_number e) 0 (number_positive e)))
