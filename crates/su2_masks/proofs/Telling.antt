-- What is judged before the masks of a complex are listed, and what their list is.
use Prim.Native.Nat.{ℕ, ◌^◌, ◌<◌, ◌≤◌}
use mathlib.Core.List.{List, ◌++◌}
use mathlib.Core.Bool.{Bool, false}
use mathlib.Core.Path.{◌≡◌, sym, ◌∙◌}
use native.Mathlib.Omega.{arith}
use native.Mathlib.Decide.{dec_lt}
use borrow.Author.Tests.{lt-ltb, le-ltb}
use lib.Dec.{ltb}
use lib.Pow.{pow_mono}
use lib.ListN.{length}
use Rattle.mathematics.specs.Refusals.{first}
use Rattle.mathematics.proofs.Calls.{Tells, none, here, past}
use Rattle.complex.specs.declared.SimplicialComplex.{SimplicialComplex}
use Rattle.complex.specs.Complex.{Complex, complex_of}
use Rattle.complex.specs.Judge.{Accepted, refusal}
use Rattle.complex.proofs.Refusing.{past_record}
use Rattle.complex.proofs.Accepting.{accepted}
use Rattle.gauss_law.specs.Listing.{free_edges}
use Rattle.su2_even_sets.specs.declared.Forest.{Forest}
use Rattle.su2_even_sets.specs.EvenSets.{su2_states}
use Rattle.su2_masks.specs.Place.{LoopsOf}
use Rattle.su2_masks.specs.Basis.{su2_tests, su2_basis_tests}
use Rattle.su2_even_sets.proofs.EvenLists.{even_count}
use Rattle.su2_masks.proofs.Placing.{closing_number}

-- the limit is 2 ^ 20
pub limit_told : (n : ℕ) → ltb 1048576 (2 ^ n) ≡ ltb 20 n
limit_told n = go (dec_lt 20 n)
  where
    go : Dec (20 < n) → ltb 1048576 (2 ^ n) ≡ ltb 20 n
    go (yes h) = let more : 2 ^ 21 ≤ 2 ^ n = pow_mono h in lt-ltb 1048576 (2 ^ n) (omega arith) ∙ sym (lt-ltb 20 n h)
    go (no h) =
        let few : n ≤ 20 = omega arith in
        le-ltb 1048576 (2 ^ n) (pow_mono few) ∙ sym (le-ltb 20 n few)

-- ---- what is judged before the masks are listed
module _ {c : Complex} {f : Forest} (good : refusal c ≡ 0) (of : LoopsOf c f) where
  -- the number of closing edges decides
  over : ltb 1048576 (2 ^ length (free_edges c)) ≡ ltb 20 f.count
  over = rw (← (closing_number c f of)) (limit_told f.count)

  pub limit_refuses : 20 < f.count → (rest : List (ℕ × Bool)) → Tells (su2_tests c ++ rest) 10
  limit_refuses h rest = past_record c good (here (over ∙ lt-ltb 20 f.count h))

  -- and then the rest
  pub past_masks : f.count ≤ 20 → {rest : List (ℕ × Bool)} {k : ℕ} → Tells rest k → Tells (su2_tests c ++ rest) k
  past_masks h t = past_record c good (past (over ∙ le-ltb 20 f.count h) t)

-- an accepted complex within the limit is never refused where the list is long enough
pub never_refused : (c : SimplicialComplex) (room : ℕ) → Accepted (complex_of c) → 2 ^ length (free_edges (complex_of c)) ≤ 1048576 → 2 ^ length (free_edges (complex_of c)) ≤ room
    → first (su2_basis_tests (complex_of c) room) ≡ 0
never_refused c room right within enough =
    let long : ltb room (length (su2_states (complex_of c))) ≡ false = rw (even_count (complex_of c) right) (le-ltb room (2 ^ length (free_edges (complex_of c))) enough) in
    (past_record (complex_of c) ((accepted c).1 right) (past (le-ltb 1048576 (2 ^ length (free_edges (complex_of c))) within) (past long none))).number
