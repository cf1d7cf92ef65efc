-- The law at a root follows from the law at the other vertices of its part.
use Prim.Native.Nat.{ℕ, ◌<◌}
use mathlib.Core.List.{List, [], ◌∷◌}
use mathlib.Core.Bool.{cond}
use mathlib.Core.Path.{◌≡◌, refl, sym, ◌∙◌}
use mathlib.Core.Logic.{◌≢◌, ◌⊎◌, inl, inr}
use lib.Dec.{eqb}
use lib.IntN.{ℤ, pos, one, ◌+ℤ◌, ◌-ℤ◌, ◌*ℤ◌, +ℤ_invr, *ℤ-one, *ℤ_comm, zero-*ℤ, *ℤ-zero}
use Rattle.mathematics.specs.Integers.{sum_below}
use Rattle.mathematics.proofs.Integers.{positive, negative, the, ◌⊟◌, integral, parts, times_sum, times_difference}
use Rattle.mathematics.proofs.Sums.{sum_same, sum_zero, sum_add, sum_difference, sum_one}
use Rattle.mathematics.specs.Entries.{Each, none, also}
use Rattle.complex.specs.Complex.{Simplex, start, end, uncharged}
use Rattle.gauss_law.specs.Gauss.{flow, gauss}
use Rattle.gauss_law.proofs.Gauss.{pick_here, pick_elsewhere}

-- the edge's ends are below n and have the same weight
pub record Level (w : ℕ → ℤ) (n : ℕ) (e : Simplex) : Type 0 where
  pub start_below : start e < n
  pub end_below : end e < n
  pub level : w (start e) ≡ w (end e)

-- a value at one vertex, weighted and added over all vertices
weighted_pick : (w : ℕ → ℤ) (n a : ℕ) (x : ℤ) → a < n → sum_below (λ v. w v *ℤ cond (eqb a v) x (pos 0)) n ≡ w a *ℤ x
weighted_pick w n a x h =
    sum_one (λ v. w v *ℤ cond (eqb a v) x (pos 0)) a n h (λ v k m. rw (pick_elsewhere a v x (λ e. m (sym e))) (*ℤ-zero (w v)))
    ∙ rw (pick_here a a x refl)

weighted_zero : (w : ℕ → ℤ) (n : ℕ) → sum_below (λ v. w v *ℤ pos 0) n ≡ pos 0
weighted_zero w n = sum_same (λ v. w v *ℤ pos 0) uncharged n (λ v h. *ℤ-zero (w v)) ∙ sum_zero n

weighted_flow : (w : ℕ → ℤ) (n : ℕ) (e : Simplex) (x : ℤ) → Level w n e → sum_below (λ v. w v *ℤ flow e x v) n ≡ pos 0
unfolding flow
weighted_flow w n e x h =
    sum_same (λ v. w v *ℤ flow e x v) (λ v. w v *ℤ cond (eqb (end e) v) x (pos 0) -ℤ w v *ℤ cond (eqb (start e) v) x (pos 0)) n
    (λ v k. times_difference (w v) (cond (eqb (end e) v) x (pos 0)) (cond (eqb (start e) v) x (pos 0)))
    ∙ sum_difference (λ v. w v *ℤ cond (eqb (end e) v) x (pos 0)) (λ v. w v *ℤ cond (eqb (start e) v) x (pos 0)) n
    ∙ rw (weighted_pick w n (end e) x h.end_below, weighted_pick w n (start e) x h.start_below, h.level) (+ℤ_invr (w (end e) *ℤ x))

-- for a weight that is equal at both ends of every edge, the weighted Gauss sums add to zero
pub weighted_sums : (w : ℕ → ℤ) (n : ℕ) {es : List Simplex} (s : List ℤ) → Each (Level w n) es → sum_below (λ v. w v *ℤ gauss es s v) n ≡ pos 0
unfolding gauss
weighted_sums w n s none = weighted_zero w n
weighted_sums w n [] (also h k) = weighted_zero w n
weighted_sums w n (x ∷ s) (also {x = e} {l = es} h k) =
    sum_same (λ v. w v *ℤ (flow e x v +ℤ gauss es s v)) (λ v. w v *ℤ flow e x v +ℤ w v *ℤ gauss es s v) n (λ v l. times_sum (w v) (flow e x v) (gauss es s v))
    ∙ sum_add (λ v. w v *ℤ flow e x v) (λ v. w v *ℤ gauss es s v) n
    ∙ rw (weighted_flow w n e x h, weighted_sums w n s k)

pub one_times : (x : ℤ) → pos 1 *ℤ x ≡ x
unfolding one
one_times x = *ℤ_comm (pos 1) x ∙ *ℤ-one x

-- w is 1 at the root and 0 outside its part, or wherever the law is not known
pub law_at_root : (q w : ℕ → ℤ) (n : ℕ) {es : List Simplex} (s : List ℤ) (r : ℕ) → Each (Level w n) es → r < n → w r ≡ pos 1
    → sum_below (λ v. w v *ℤ q v) n ≡ pos 0
    → ((v : ℕ) → v < n → v ≢ r → (w v ≡ pos 0) ⊎ (gauss es s v ≡ q v))
    → gauss es s r ≡ q r
unfolding positive negative
law_at_root q w n {es} s r level h one-at-root charges elsewhere =
    let G = gauss es s r in
    let Q = q r in
    let total : sum_below difference n ≡ pos 0 =
    sum_difference (λ v. w v *ℤ gauss es s v) (λ v. w v *ℤ q v) n ∙ rw (weighted_sums w n s level, charges) in
    let alone : sum_below difference n ≡ w r *ℤ G -ℤ w r *ℤ Q = sum_one difference r n h (λ v k m. at v (elsewhere v k m)) in
    let weight : w r *ℤ G -ℤ w r *ℤ Q ≡ G -ℤ Q = rw (one-at-root, one_times G, one_times Q) in
    let e : G -ℤ Q ≡ pos 0 = sym weight ∙ sym alone ∙ total in
    omega (integral, parts (the G ⊟ the Q))
  where
    difference : ℕ → ℤ
    difference v = w v *ℤ gauss es s v -ℤ w v *ℤ q v

    at : (v : ℕ) → (w v ≡ pos 0) ⊎ (gauss es s v ≡ q v) → difference v ≡ pos 0
    at v (inl k) = rw (k, zero-*ℤ (gauss es s v), zero-*ℤ (q v))
    at v (inr k) = rw k (+ℤ_invr (w v *ℤ q v))
