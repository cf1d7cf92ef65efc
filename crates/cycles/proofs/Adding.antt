-- Laws of one assignment added to another a number of times.
use Prim.Native.Nat.{ℕ, zero, suc}
use mathlib.Core.List.{List, [], ◌∷◌}
use mathlib.Core.Bool.{Bool, true, false, cond}
use mathlib.Core.Path.{◌≡◌, refl, ◌∙◌, ap}
use native.Mathlib.Omega.{arith}
use lib.Dec.{eqb}
use lib.IntN.{ℤ, pos, ◌+ℤ◌, ◌*ℤ◌, *ℤ-zero, +ℤ_idr}
use lib.ListN.{get_or, length, replicate}
use Rattle.mathematics.proofs.Integers.{linear, the, ◌⊞◌, ◌⊟◌, times_sum, times_difference}
use Rattle.complex.specs.Complex.{Simplex, start, end}
use Rattle.gauss_law.specs.Gauss.{flow, gauss}
use Rattle.gauss_law.proofs.Gauss.{flow_zero}
use Rattle.cycles.specs.Cycles.{with_cycle}

pub added_length : (s : List ℤ) (t : ℤ) (z : List ℤ) → length (with_cycle s t z) ≡ length s
unfolding with_cycle
added_length [] t z = refl
added_length (x ∷ s) t [] = refl
added_length (x ∷ s) t (y ∷ z) = ap suc (added_length s t z)

zero_times : (t : ℤ) → pos 0 ≡ pos 0 +ℤ t *ℤ pos 0
zero_times t = rw (*ℤ-zero t)

pub added_at : (s : List ℤ) (t : ℤ) (z : List ℤ) (e : ℕ) → length z ≡ length s → get_or (with_cycle s t z) e (pos 0) ≡ get_or s e (pos 0) +ℤ t *ℤ get_or z e (pos 0)
unfolding with_cycle
added_at [] t [] e l = zero_times t
added_at [] t (y ∷ z) e l = absurd (omega arith)
added_at (x ∷ s) t [] e l = absurd (omega arith)
added_at (x ∷ s) t (y ∷ z) zero l = refl
added_at (x ∷ s) t (y ∷ z) (suc e) l = added_at s t z e (omega arith)

-- ---- Gauss sums
pick_added : (b : Bool) (x t y : ℤ) → cond b (x +ℤ t *ℤ y) (pos 0) ≡ cond b x (pos 0) +ℤ t *ℤ cond b y (pos 0)
pick_added true x t y = refl
pick_added false x t y = zero_times t

flow_added : (e : Simplex) (x t y : ℤ) (v : ℕ) → flow e (x +ℤ t *ℤ y) v ≡ flow e x v +ℤ t *ℤ flow e y v
unfolding flow
flow_added e x t y v =
    let A = cond (eqb (end e) v) x (pos 0) in
    let B = cond (eqb (start e) v) x (pos 0) in
    let C = cond (eqb (end e) v) y (pos 0) in
    let D = cond (eqb (start e) v) y (pos 0) in
    rw (pick_added (eqb (end e) v) x t y, pick_added (eqb (start e) v) x t y, times_difference t C D)
    (linear (the A ⊞ the (t *ℤ C) ⊟ (the B ⊞ the (t *ℤ D))) (the A ⊟ the B ⊞ (the (t *ℤ C) ⊟ the (t *ℤ D))) (omega arith))

pub gauss_added : (es : List Simplex) (s : List ℤ) (t : ℤ) (z : List ℤ) (v : ℕ) → length z ≡ length s
    → gauss es (with_cycle s t z) v ≡ gauss es s v +ℤ t *ℤ gauss es z v
unfolding gauss with_cycle
gauss_added [] s t z v l = zero_times t
gauss_added (e ∷ es) [] t [] v l = zero_times t
gauss_added (e ∷ es) [] t (y ∷ z) v l = absurd (omega arith)
gauss_added (e ∷ es) (x ∷ s) t [] v l = absurd (omega arith)
gauss_added (e ∷ es) (x ∷ s) t (y ∷ z) v l =
    let A = flow e x v in
    let B = flow e y v in
    let G = gauss es s v in
    let H = gauss es z v in
    rw (gauss_added es s t z v (omega arith), flow_added e x t y v, times_sum t B H)
    (linear (the A ⊞ the (t *ℤ B) ⊞ (the G ⊞ the (t *ℤ H))) (the A ⊞ the G ⊞ (the (t *ℤ B) ⊞ the (t *ℤ H))) (omega arith))

-- a closed one leaves the sum
pub gauss_closed : (es : List Simplex) (s : List ℤ) (t : ℤ) (z : List ℤ) (v : ℕ) → length z ≡ length s → gauss es z v ≡ pos 0
    → gauss es (with_cycle s t z) v ≡ gauss es s v
gauss_closed es s t z v l h = gauss_added es s t z v l ∙ rw (h, *ℤ-zero t) (+ℤ_idr (gauss es s v))

-- ---- values that are all zero
pub zeros_at : (n e : ℕ) → get_or (replicate n (pos 0)) e (pos 0) ≡ pos 0
zeros_at zero e = refl
zeros_at (suc n) zero = refl
zeros_at (suc n) (suc e) = zeros_at n e

pub gauss_zeros : (es : List Simplex) (n v : ℕ) → gauss es (replicate n (pos 0)) v ≡ pos 0
unfolding gauss
gauss_zeros [] n v = refl
gauss_zeros (e ∷ es) zero v = refl
gauss_zeros (e ∷ es) (suc n) v = rw (flow_zero e v, gauss_zeros es n v)
