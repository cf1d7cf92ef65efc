-- The simplices of a flat list: how many there are, and the vertices of each.
use Prim.Native.Nat.{ℕ, zero, suc, ◌+◌, ◌*◌, ◌<◌}
use mathlib.Core.List.{List, [], ◌∷◌}
use mathlib.Core.Path.{◌≡◌, refl, ap, ◌∙◌}
use mathlib.Core.Logic.{⊎_elim}
use native.Mathlib.Nat.{eq-or-lt_of_le, le_of_suc-le-suc, not-suc-le-zero}
use native.Mathlib.Omega.{arith}
use lib.ListN.{get_or, length, length-append, get_or-append}
use lib.Seq.{get_or_at}
use Rattle.complex.specs.Complex.{entries, simplices, start, end}

pub entries_length : (l : List ℕ) (at k : ℕ) → length (entries l at k) ≡ k
unfolding entries
entries_length l at zero = refl
entries_length l at (suc k) = ap suc (entries_length l (at + 1) k)

pub entry_at : (l : List ℕ) (at k j : ℕ) → j < k → get_or (entries l at k) j 0 ≡ get_or l (at + j) 0
unfolding entries
entry_at l at zero j h = absurd (not-suc-le-zero h)
entry_at l at (suc k) zero h = let e : at ≡ at + 0 = omega arith in ap (λ i. get_or l i 0) e
entry_at l at (suc k) (suc j) h =
    let e : at + 1 + j ≡ at + suc j = omega arith in
    entry_at l (at + 1) k j (le_of_suc-le-suc h) ∙ ap (λ i. get_or l i 0) e

module _ (k : ℕ) (l : List ℕ) where
  pub simplices_length : (n : ℕ) → length (simplices k l n) ≡ n
  unfolding simplices
  simplices_length zero = refl
  simplices_length (suc n) = omega (arith, length-append (simplices k l n) (entries l (k * n) k ∷ []), simplices_length n)

  pub simplex_at : (n i : ℕ) → i < n → get_or (simplices k l n) i [] ≡ entries l (k * i) k
  unfolding simplices
  simplex_at zero i h = absurd (not-suc-le-zero h)
  simplex_at (suc n) i h =
      ⊎_elim
      (λ (q : i ≡ n). rw q (get_or_at (simplices k l n) (entries l (k * n) k) [] [] n (simplices_length n)))
      (λ q. get_or-append (simplices k l n) _ [] i (rw (simplices_length n) q) ∙ simplex_at n i q)
      (eq-or-lt_of_le (le_of_suc-le-suc h))

  -- vertex j of simplex i
  pub vertex_at : (n i j : ℕ) → i < n → j < k → get_or (get_or (simplices k l n) i []) j 0 ≡ get_or l (k * i + j) 0
  vertex_at n i j h g = rw (simplex_at n i h) (entry_at l (k * i) k j g)

module _ (l : List ℕ) (n i : ℕ) (h : i < n) where
  pub start_at : start (get_or (simplices 2 l n) i []) ≡ get_or l (2 * i) 0
  start_at = let e : 2 * i + 0 ≡ 2 * i = omega arith in vertex_at 2 l n i 0 h (omega arith) ∙ ap (λ j. get_or l j 0) e

  pub end_at : end (get_or (simplices 2 l n) i []) ≡ get_or l (2 * i + 1) 0
  end_at = vertex_at 2 l n i 1 h (omega arith)
