-- What is told of a record whose loops are found after it is judged.
use Rattle.std.proofs.Common.{◌≡◌, ℕ, ◌*◌, ◌%◌, ◌^◌, ◌<◌, ◌≤◌, List, [], ◌++◌, Bool, Result, IsErrAnd, length, take, drop, refl, sym, ap, ap₂, ◌∙◌, arith}
use Rattle.mathematics.specs.Writing.{front}
use lib.Pow.{pow_mono}
use Rattle.mathematics.proofs.Bits.{power_shifted}
use Rattle.mathematics.specs.Refusals.{first}
use Rattle.mathematics.proofs.Refusals.{numbered}
use Rattle.mathematics.specs.Tests.{every_entry}
use Rattle.mathematics.proofs.Calls.{Tells, none, among, past_all}
use Rattle.answers.specs.declared.refusal.Refusal.{Refusal}
use Rattle.answers.specs.Refusal.{refusal_number, judged}
use Rattle.answers.proofs.Numbers.{number_positive}
use Rattle.answers.proofs.Passing.{judged_passed}
use Rattle.complex.specs.declared.SimplicialComplex.{SimplicialComplex}
use Rattle.complex.specs.Complex.{Complex, complex_of}
use Rattle.complex.specs.Judge.{refusal}
use Rattle.complex.proofs.Refusing.{record_refuses}
use Rattle.su2_even_sets.specs.declared.Forest.{Forest}
use Rattle.su2_even_sets.specs.Loops.{grown, loop_sums}
use Rattle.su2_even_sets.specs.Forest.{Keeps}
use Rattle.su2_masks.specs.Place.{LoopsOf, FewLoops}
use Rattle.su2_masks.specs.Basis.{su2_tests, MasksKnown}
use Rattle.su2_even_sets.specs.EvenSets.{su2_states}
use Rattle.su2_even_sets.proofs.EvenLists.{even_complete}
use Rattle.su2_masks.proofs.Placing.{loops_of, states_number, loops_number, masks_are}
use Rattle.su2_masks.proofs.Telling.{limit_refuses, past_masks}

-- the record is refused
pub record_told : {A : Type 0} (c : Complex) (answer : Result A Refusal) (r : Refusal) → IsErrAnd answer (λ e. e ≡ r) → refusal_number r ≡ refusal c → judged answer ≡ first (su2_tests c)
record_told c answer r is e = rw (judged_passed answer r is) (sym (record_refuses c e (number_positive r) _).number)

-- or accepted, and the number of its loops decides
module _ (c : SimplicialComplex) (f : Forest) (good : 0 ≡ refusal (complex_of c)) (keeps : Keeps (grown (complex_of c).edges c.n_edges) f) where
  loops : LoopsOf (complex_of c) f
  loops = loops_of c (sym good) f keeps

  pub many_told : 20 < f.count → 10 ≡ first (su2_tests (complex_of c))
  many_told h = sym (limit_refuses (sym good) loops h []).number

  pub few_told : f.count ≤ 20 → 0 ≡ first (su2_tests (complex_of c))
  few_told h = sym (past_masks (sym good) loops h none).number

  pub few_loops : f.count ≤ 20 → FewLoops (complex_of c) f
  few_loops h = record { of = loops; few = h }

-- ---- what is judged after these tests
-- they refuse
pub loops_refuse : (c : Complex) (r : Refusal) → refusal_number r ≡ first (su2_tests c) → {rest : List (ℕ × Bool)} → Tells (su2_tests c ++ rest) (refusal_number r)
loops_refuse c r e {rest} = among (su2_tests c) rest e (number_positive r)

-- or the rest decides
pub past_loops : (c : Complex) → 0 ≡ first (su2_tests c) → {rest : List (ℕ × Bool)} {k : ℕ} → Tells rest k → Tells (su2_tests c ++ rest) k
unfolding numbered every_entry
past_loops c good t = past_all (su2_tests c) refl (sym good) t

-- what is known of the masks, and how many there are
module _ (c : Complex) (f : Forest) (loops : FewLoops c f) where
  pub masks_known : MasksKnown c
  masks_known = let few = loops.few in record { complete = even_complete c loops.of.accepted; few = rw (states_number c f loops.of) (pow_mono few) }

  pub states_counted : 1 * 2 ^ f.count % 2 ^ 64 ≡ length (su2_states c)
  states_counted = let few = loops.few in power_shifted f.count (omega arith) ∙ sym (states_number c f loops.of)

  -- a list that begins with the sums of the loops begins with the masks
  pub masks_front : (old new : List ℕ) → new ≡ loop_sums (take f.count f.loops) (length (take f.count f.loops)) ++ drop (2 ^ length (take f.count f.loops)) old → new ≡ front (su2_states c) old
  masks_front old new is =
      is ∙ ap₂ (λ (l : List ℕ) (n : ℕ). l ++ drop n old) (masks_are c f loops.of) (ap (λ (n : ℕ). 2 ^ n) (loops_number c f loops.of) ∙ sym (states_number c f loops.of))
