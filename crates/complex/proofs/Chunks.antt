-- The simplices of a record's flat list, as the list is cut.
use Prim.Native.Nat.{ℕ, zero, suc, ◌+◌, ◌*◌, ◌/◌, ◌<◌, ◌≤◌}
use mathlib.Core.List.{List, [], ◌∷◌, ◌++◌}
use mathlib.Core.Path.{◌≡◌, refl, ap, ◌∙◌}
use native.Mathlib.Omega.{arith}
use lib.ListN.{get_or, length, take, drop}
use lib.Seq.{drop-drop, get_or-take, length-take-le}
use Rattle.std.specs.Simd.{first_chunks}
use Rattle.complex.specs.Complex.{Simplex, entries, simplices}
use Rattle.complex.proofs.Flattened.{entries_part}
use Rattle.complex.proofs.Simplices.{simplices_length, simplex_at}

chunk_last : (k n : ℕ) (l : List ℕ) → first_chunks k (suc n) l ≡ first_chunks k n l ++ (take k (drop (k * n) l) ∷ [])
chunk_last k zero l = let e : k * 0 ≡ 0 = omega arith in rw e
chunk_last k (suc n) l =
    let e : k + k * n ≡ k * suc n = omega arith in
    ap (λ cs. take k l ∷ cs) (chunk_last k n (drop k l) ∙ rw (drop-drop (k * n) k l, e))

pub chunks_are : (k n : ℕ) (l : List ℕ) → k * n ≤ length l → first_chunks k n l ≡ simplices k l n
unfolding simplices
chunks_are k zero l h = refl
chunks_are k (suc n) l h =
    let e : k * suc n ≡ k * n + k = omega arith in
    chunk_last k n l ∙ rw (chunks_are k n l (omega arith), entries_part l k (k * n) (omega arith))

-- ---- of the front of a list that holds them
entries_taken : (m : ℕ) (l : List ℕ) (at k : ℕ) → at + k ≤ m → entries (take m l) at k ≡ entries l at k
unfolding entries
entries_taken m l at zero h = refl
entries_taken m l at (suc k) h = rw (get_or-take m l at 0 (omega arith), entries_taken m l (at + 1) k (omega arith))

simplices_taken : (m k : ℕ) (l : List ℕ) (n : ℕ) → k * n ≤ m → simplices k (take m l) n ≡ simplices k l n
unfolding simplices
simplices_taken m k l zero h = refl
simplices_taken m k l (suc n) h =
    let e : k * suc n ≡ k * n + k = omega arith in
    rw (simplices_taken m k l n (omega arith), entries_taken m l (k * n) k (omega arith))

taken : (k n m : ℕ) (l : List ℕ) → k * n ≤ length l → m ≡ n → first_chunks k m (take (k * n) l) ≡ simplices k l n
taken k n m l h same =
    let long : length (take (k * n) l) ≡ k * n = length-take-le (k * n) l h in
    rw same (chunks_are k n (take (k * n) l) (omega arith) ∙ simplices_taken (k * n) k l n (omega arith))

pub pairs : (l : List ℕ) (n : ℕ) → 2 * n ≤ length l → first_chunks 2 (length (take (2 * n) l) / 2) (take (2 * n) l) ≡ simplices 2 l n
pairs l n h =
    let long : length (take (2 * n) l) ≡ 2 * n = length-take-le (2 * n) l h in
    taken 2 n (length (take (2 * n) l) / 2) l h (omega arith)

-- ---- a list of simplices that is walked
module _ (k : ℕ) (l : List ℕ) (n : ℕ) {items : List Simplex} (is : items ≡ simplices k l n) where
  pub listed_long : length items ≡ n
  listed_long = ap length is ∙ simplices_length k l n

  pub listed_at : {i : ℕ} → i < length items → get_or items i [] ≡ entries l (k * i) k
  listed_at {i} h = rw is (simplex_at k l n i (omega (arith, listed_long)))
