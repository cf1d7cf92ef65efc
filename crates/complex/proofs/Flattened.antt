-- Simplices and their flat list: each is got back from the other.
use Prim.Native.Nat.{ℕ, zero, suc, ◌+◌, ◌*◌, ◌<◌, ◌≤◌}
use mathlib.Core.List.{List, [], ◌++◌, flatten}
use mathlib.Core.Path.{◌≡◌, refl, sym, ◌∙◌}
use native.Mathlib.Numerals.{add-one}
use native.Mathlib.Omega.{arith}
use lib.ListN.{get_or, length, take, drop, get_or-append}
use lib.Seq.{drop-cons, take-add, ext_get_or}
use Rattle.mathematics.proofs.Flat.{flatten_last, flatten_at}
use Rattle.complex.specs.Complex.{Simplex, entries, simplices}
use Rattle.complex.proofs.Simplices.{entries_length, entry_at, simplices_length, simplex_at}
use Rattle.complex.proofs.Accepting.{Sized}

pub entries_part : (l : List ℕ) (k at : ℕ) → at + k ≤ length l → entries l at k ≡ take k (drop at l)
unfolding entries
entries_part l zero at h = refl
entries_part l (suc k) at h =
    rw (drop-cons l at 0 (omega arith), entries_part l k (at + 1) (omega arith), add-one at)

pub flatten_simplices : (k : ℕ) (l : List ℕ) (n : ℕ) → k * n ≤ length l → flatten (simplices k l n) ≡ take (k * n) l
unfolding simplices flatten
flatten_simplices k l zero h = let e : k * 0 ≡ 0 = omega arith in rw e
flatten_simplices k l (suc n) h =
    let e : k * suc n ≡ k * n + k = omega arith in
    rw (flatten_last (simplices k l n) (entries l (k * n) k), flatten_simplices k l n (omega arith), entries_part l k (k * n) (omega arith), e)
    (sym (take-add (k * n) k l))

pub simplices_flatten : (k : ℕ) (es : List Simplex) (rest : List ℕ) → Sized k es → simplices k (flatten es ++ rest) (length es) ≡ es
simplices_flatten k es rest long =
    let l = flatten es ++ rest in
    ext_get_or [] (simplices k l (length es)) es (simplices_length k l (length es))
    (λ i h.
    let il : i < length es = omega (arith, simplices_length k l (length es)) in
    simplex_at k l (length es) i il
    ∙ ext_get_or 0 (entries l (k * i) k) (get_or es i []) (entries_length l (k * i) k ∙ sym (long i il))
    (λ j g.
    let jk : j < k = omega (arith, entries_length l (k * i) k) in
    entry_at l (k * i) k j jk ∙ flatten_at k 0 es rest long i j il jk))

entries_front : (l rest : List ℕ) (k at : ℕ) → at + k ≤ length l → entries (l ++ rest) at k ≡ entries l at k
unfolding entries
entries_front l rest zero at h = refl
entries_front l rest (suc k) at h = rw (get_or-append l rest 0 at (omega arith), entries_front l rest k (at + 1) (omega arith))

-- what stands behind the simplices does not matter
pub simplices_front : (k : ℕ) (l rest : List ℕ) (n : ℕ) → k * n ≤ length l → simplices k (l ++ rest) n ≡ simplices k l n
unfolding simplices
simplices_front k l rest zero h = refl
simplices_front k l rest (suc n) h =
    let e : k * suc n ≡ k * n + k = omega arith in
    rw (simplices_front k l rest n (omega arith), entries_front l rest k (k * n) (omega arith))
