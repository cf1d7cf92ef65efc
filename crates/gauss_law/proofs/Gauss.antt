-- Laws of the Gauss sum: one edge, one edge more, one value changed, two assignments that agree, the test of the law.
use Prim.Native.Nat.{ℕ, zero, suc, ◌<◌}
use mathlib.Core.List.{List, [], ◌∷◌, ◌++◌}
use mathlib.Core.Bool.{Bool, true, false, cond}
use mathlib.Core.Path.{◌≡◌, refl, sym, ◌∙◌}
use mathlib.Core.Logic.{◌≢◌, ◌⊎◌, inl, inr}
use native.Mathlib.Omega.{arith}
use lib.Dec.{eqb}
use lib.IntN.{ℤ, pos, ◌+ℤ◌, ◌-ℤ◌, neg_ℤ, neg_ℤ-neg_ℤ}
use lib.ListN.{length, get_or, set}
use lib.Seq.{set-get_or}
use borrow.Author.Tests.{eq-eqb, ne_eqb}
use Rattle.mathematics.specs.Integers.{equal}
use Rattle.mathematics.proofs.Counting.{every_at, at_every}
use Rattle.mathematics.proofs.Integers.{linear, the, nought, ◌⊞◌, ◌⊟◌, ⊖◌, integral, parts, equal_true, equal_self}
use Rattle.complex.specs.Complex.{Simplex, Complex, start, end}
use Rattle.gauss_law.specs.Gauss.{flow, gauss, Lawful, lawful}

-- v is one end of the edge and not the other
pub data Meets (e : Simplex) (v : ℕ) : Type 0 where
  ends : end e ≡ v → start e ≢ v → Meets e v
  starts : start e ≡ v → end e ≢ v → Meets e v

-- v is no end of the edge
abbrev pub Misses : Simplex → ℕ → Type 0
Misses e v = (start e ≢ v) × (end e ≢ v)

-- ---- one edge
pub pick_here : (a v : ℕ) (x : ℤ) → a ≡ v → cond (eqb a v) x (pos 0) ≡ x
pick_here a v x h = rw (eq-eqb a v h)

pub pick_elsewhere : (a v : ℕ) (x : ℤ) → a ≢ v → cond (eqb a v) x (pos 0) ≡ pos 0
pick_elsewhere a v x h = rw (ne_eqb a v h)

pub flow_zero : (e : Simplex) (v : ℕ) → flow e (pos 0) v ≡ pos 0
unfolding flow
flow_zero e v = go (eqb (end e) v) (eqb (start e) v)
  where
    go : (a b : Bool) → cond a (pos 0) (pos 0) -ℤ cond b (pos 0) (pos 0) ≡ pos 0
    go true true = refl
    go true false = refl
    go false true = refl
    go false false = refl

pick_sum : (b : Bool) (x y : ℤ) → cond b (x +ℤ y) (pos 0) ≡ cond b x (pos 0) +ℤ cond b y (pos 0)
pick_sum true x y = refl
pick_sum false x y = refl

pub flow_sum : (e : Simplex) (x y : ℤ) (v : ℕ) → flow e (x +ℤ y) v ≡ flow e x v +ℤ flow e y v
unfolding flow
flow_sum e x y v =
    let A = cond (eqb (end e) v) x (pos 0) in
    let B = cond (eqb (start e) v) x (pos 0) in
    let C = cond (eqb (end e) v) y (pos 0) in
    let D = cond (eqb (start e) v) y (pos 0) in
    rw (pick_sum (eqb (end e) v) x y, pick_sum (eqb (start e) v) x y)
    (linear (the A ⊞ the C ⊟ (the B ⊞ the D)) (the A ⊟ the B ⊞ (the C ⊟ the D)) (omega arith))

-- the same value on two edges in a row is that value on the edge past both
pub flow_past : (a b c : ℕ) (x : ℤ) (v : ℕ) → flow (a ∷ b ∷ []) x v +ℤ flow (b ∷ c ∷ []) x v ≡ flow (a ∷ c ∷ []) x v
unfolding flow
flow_past a b c x v =
    let A = cond (eqb a v) x (pos 0) in
    let B = cond (eqb b v) x (pos 0) in
    let C = cond (eqb c v) x (pos 0) in
    linear (the B ⊟ the A ⊞ (the C ⊟ the B)) (the C ⊟ the A) (omega arith)

pub flow_misses : (e : Simplex) (x : ℤ) (v : ℕ) → Misses e v → flow e x v ≡ pos 0
unfolding flow
flow_misses e x v h = rw (pick_elsewhere (end e) v x h.1, pick_elsewhere (start e) v x h.0)

pub flow_ends : (e : Simplex) (x : ℤ) (v : ℕ) → end e ≡ v → start e ≢ v → flow e x v ≡ x
unfolding flow
flow_ends e x v h k = rw (pick_here (end e) v x h, pick_elsewhere (start e) v x k) (linear (the x ⊟ nought) (the x) (omega arith))

pub flow_starts : (e : Simplex) (x : ℤ) (v : ℕ) → start e ≡ v → end e ≢ v → flow e x v ≡ neg_ℤ x
unfolding flow
flow_starts e x v h k = rw (pick_here (start e) v x h, pick_elsewhere (end e) v x k) (linear (nought ⊟ the x) (⊖ the x) (omega arith))

pub flow_once : (e : Simplex) (x y : ℤ) (v : ℕ) → Meets e v → flow e x v ≡ flow e y v → x ≡ y
flow_once e x y v (ends h k) f = sym (flow_ends e x v h k) ∙ f ∙ flow_ends e y v h k
flow_once e x y v (starts h k) f =
    let n : neg_ℤ x ≡ neg_ℤ y = sym (flow_starts e x v h k) ∙ f ∙ flow_starts e y v h k in
    omega (integral, parts (⊖ the x), parts (⊖ the y))

-- the value that makes the edge add y at v
unfoldable pub turned : Simplex → ℤ → ℕ → ℤ
turned e y v = cond (eqb (end e) v) y (neg_ℤ y)

pub flow_turned : (e : Simplex) (y : ℤ) (v : ℕ) → Meets e v → flow e (turned e y v) v ≡ y
unfolding turned
flow_turned e y v (ends h k) = flow_ends e (turned e y v) v h k ∙ rw (eq-eqb (end e) v h)
flow_turned e y v (starts h k) = flow_starts e (turned e y v) v h k ∙ rw (ne_eqb (end e) v k) (neg_ℤ-neg_ℤ y)

-- ---- one edge more, at the end
pub gauss_last : (es : List Simplex) (s : List ℤ) (e : Simplex) (x : ℤ) (v : ℕ) → length s ≡ length es
    → gauss (es ++ (e ∷ [])) (s ++ (x ∷ [])) v ≡ gauss es s v +ℤ flow e x v
unfolding gauss
gauss_last [] [] e x v h = linear (the (flow e x v) ⊞ nought) (nought ⊞ the (flow e x v)) (omega arith)
gauss_last [] (y ∷ s) e x v h = absurd (omega arith)
gauss_last (d ∷ es) [] e x v h = absurd (omega arith)
gauss_last (d ∷ es) (y ∷ s) e x v h =
    let A = flow d y v in
    let G = gauss es s v in
    let B = flow e x v in
    let ih : gauss (es ++ (e ∷ [])) (s ++ (x ∷ [])) v ≡ G +ℤ B = gauss_last es s e x v (omega arith) in
    rw ih (linear (the A ⊞ (the G ⊞ the B)) (the A ⊞ the G ⊞ the B) (omega arith))

-- ---- one value changed
pub gauss_set : (es : List Simplex) (s : List ℤ) (i v : ℕ) (x : ℤ) → i < length es → length s ≡ length es
    → gauss es (set s i x) v ≡ gauss es (set s i (pos 0)) v +ℤ flow (get_or es i []) x v
unfolding gauss
gauss_set [] s i v x h k = absurd (omega arith)
gauss_set (e ∷ es) [] i v x h k = absurd (omega arith)
gauss_set (e ∷ es) (y ∷ s) zero v x h k =
    rw (flow_zero e v) (linear (the (flow e x v) ⊞ the (gauss es s v)) (nought ⊞ the (gauss es s v) ⊞ the (flow e x v)) (omega arith))
gauss_set (e ∷ es) (y ∷ s) (suc i) v x h k =
    let A = flow e y v in
    let G = gauss es (set s i (pos 0)) v in
    let B = flow (get_or es i []) x v in
    let ih : gauss es (set s i x) v ≡ G +ℤ B = gauss_set es s i v x (omega arith) (omega arith) in
    rw ih (linear (the A ⊞ (the G ⊞ the B)) (the A ⊞ the G ⊞ the B) (omega arith))

-- the sum with one edge taken out
pub gauss_split : (es : List Simplex) (s : List ℤ) (i v : ℕ) → i < length es → length s ≡ length es
    → gauss es s v ≡ gauss es (set s i (pos 0)) v +ℤ flow (get_or es i []) (get_or s i (pos 0)) v
gauss_split es s i v h k = rw set-get_or at (gauss_set es s i v (get_or s i (pos 0)) h k)

-- two assignments that agree on the edges at v
pub gauss_agree : (es : List Simplex) (s t : List ℤ) (v : ℕ) → length s ≡ length t
    → ((i : ℕ) → i < length es → Misses (get_or es i []) v ⊎ (get_or s i (pos 0) ≡ get_or t i (pos 0)))
    → gauss es s v ≡ gauss es t v
unfolding gauss
gauss_agree [] s t v l h = refl
gauss_agree (e ∷ es) [] [] v l h = refl
gauss_agree (e ∷ es) [] (y ∷ t) v l h = absurd (omega arith)
gauss_agree (e ∷ es) (x ∷ s) [] v l h = absurd (omega arith)
gauss_agree (e ∷ es) (x ∷ s) (y ∷ t) v l h =
    let ih : gauss es s v ≡ gauss es t v = gauss_agree es s t v (omega arith) (λ i k. h (suc i) (omega arith)) in
    rw ih (go (h zero (omega arith)))
  where
    go : Misses e v ⊎ (x ≡ y) → flow e x v +ℤ gauss es t v ≡ flow e y v +ℤ gauss es t v
    go (inl a) = rw (flow_misses e x v a, flow_misses e y v a)
    go (inr f) = rw f

-- ---- the test of the law
pub lawful_true : (c : Complex) (q : ℕ → ℤ) (s : List ℤ) → lawful c q s ≡ true → Lawful c q s
unfolding lawful
lawful_true c q s h v k = equal_true (gauss c.edges s v) (q v) (every_at (λ v. equal (gauss c.edges s v) (q v)) c.vertices h v k)

pub true_lawful : (c : Complex) (q : ℕ → ℤ) (s : List ℤ) → Lawful c q s → lawful c q s ≡ true
unfolding lawful
true_lawful c q s h = at_every (λ v. equal (gauss c.edges s v) (q v)) c.vertices (λ v k. rw (h v k) (equal_self (q v)))
