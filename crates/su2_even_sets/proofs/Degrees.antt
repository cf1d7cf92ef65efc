-- The edges of a set counted at their ends under a weight of the vertices. Even sets are those whose count is even under every weight; so
-- sums of even sets are even, and so are the three edges of a triangle.
use Prim.Native.Nat.{ℕ, zero, suc, ◌+◌, ◌*◌, ◌/◌, ◌%◌, ◌^◌, ◌≤◌, ◌<◌}
use mathlib.Core.List.{List, [], ◌∷◌}
use mathlib.Core.Bool.{Bool, true, false, ◌&&◌, ◌||◌, cond}
use mathlib.Core.Path.{◌≡◌, refl, sym, ap, ap₂, ◌∙◌}
use mathlib.Core.Logic.{◌≢◌}
use native.Mathlib.Nat.{mul_assoc, mul-add, zero-mul, mul-zero, one-mul, mul-one, lt_trans}
use native.Mathlib.Omega.{arith}
use borrow.Author.Tests.{eqb-true, eq-eqb, ne_eqb}
use lib.Dec.{eqb}
use lib.Bits.{bit_xor}
use lib.ListN.{get_or, length}
use Rattle.mathematics.specs.Bits.{bit}
use Rattle.mathematics.proofs.Bits.{bit_below, bit_xor_lem, bit_of_zero, bit_above, bit_power, bit_power_other}
use Rattle.mathematics.proofs.Counting.{every_at, at_every}
use Rattle.mathematics.proofs.Totals.{total, total_same, total_cut, total_zero, total_one, keep_total}
use Rattle.complex.specs.Complex.{Simplex, Complex, start, end}
use Rattle.complex.specs.Search.{touches, Ends}
use Rattle.complex.specs.Judge.{Accepted}
use Rattle.complex.specs.Sides.{sides}
use Rattle.complex.proofs.TriangleEdges.{triangle_sides}
use Rattle.gauss_law.proofs.Accepted.{accepted_ends}
use Rattle.su2_even_sets.specs.EvenSets.{chosen, meeting, even}

-- the weights of the two ends
unfoldable pub both : (ℕ → ℕ) → Simplex → ℕ
both w s = w (start s) + w (end s)

-- the ends of those of the first n edges that are in x, weighed
unfoldable pub degree : (ℕ → ℕ) → List Simplex → ℕ → ℕ → ℕ
degree w es x n = total (λ e. bit x e * both w (get_or es e [])) n

-- even under every weight of the vertices
abbrev pub Balanced : List Simplex → ℕ → Type 0
Balanced es x = (w : ℕ → ℕ) → degree w es x (length es) % 2 ≡ 0

-- 1 at v, 0 elsewhere
unfoldable pub hit : ℕ → ℕ → ℕ
hit v u = cond (eqb u v) 1 0

pub hit_self : (v : ℕ) → hit v v ≡ 1
unfolding hit
hit_self v = rw (eq-eqb v v refl)

pub hit_other : (v u : ℕ) → u ≢ v → hit v u ≡ 0
unfolding hit
hit_other v u n = rw (ne_eqb u v n)

-- ---- the degree of a sum, of one edge, and of nothing
sum_times : (p q k : ℕ) → p < 2 → q < 2 → ((p + q) % 2 * k) % 2 ≡ (p * k + q * k) % 2
sum_times zero zero k h l = omega arith
sum_times zero (suc zero) k h l = omega arith
sum_times (suc zero) zero k h l = omega arith
sum_times (suc zero) (suc zero) k h l = omega arith
sum_times zero (suc (suc q)) k h l = absurd (omega arith)
sum_times (suc zero) (suc (suc q)) k h l = absurd (omega arith)
sum_times (suc (suc p)) q k h l = absurd (omega arith)

module _ (w : ℕ → ℕ) (es : List Simplex) where
  pub degree_xor : (x y n : ℕ) → degree w es (bit_xor x y) n % 2 ≡ (degree w es x n + degree w es y n) % 2
  unfolding degree total
  degree_xor x y zero = refl
  degree_xor x y (suc n) =
      let k = both w (get_or es n []) in
      let e : bit (bit_xor x y) n * k ≡ (bit x n + bit y n) % 2 * k = ap (λ (b : ℕ). b * k) (bit_xor_lem x y n) in
      omega (arith, e, sum_times (bit x n) (bit y n) k (bit_below x n) (bit_below y n), degree_xor x y n)

  off : (x e : ℕ) → bit x e ≡ 0 → bit x e * both w (get_or es e []) ≡ 0
  off x e h = ap (λ (b : ℕ). b * both w (get_or es e [])) h ∙ zero-mul _

  pub degree_power : (a n : ℕ) → a < n → degree w es (2 ^ a) n ≡ both w (get_or es a [])
  unfolding degree
  degree_power a n l =
      total_one (λ e. bit (2 ^ a) e * both w (get_or es e [])) a n l (λ e k m. off (2 ^ a) e (bit_power_other a e m))
      ∙ ap (λ (b : ℕ). b * both w (get_or es a [])) (bit_power a) ∙ one-mul _

  -- edges past the length of x add nothing
  pub degree_cut : (x k n : ℕ) → x < 2 ^ k → k ≤ n → degree w es x n ≡ degree w es x k
  unfolding degree
  degree_cut x k n h l = total_cut (λ e. bit x e * both w (get_or es e [])) k n l (λ e m o. off x e (bit_above k x e h m))

  pub degree_zero : (n : ℕ) → degree w es 0 n ≡ 0
  unfolding degree
  degree_zero n = total_zero (λ e. bit 0 e * both w (get_or es e [])) n (λ e l. off 0 e (bit_of_zero e))

-- ---- what the degree at a vertex means: the edges of the set that meet it
one_end : (a b v : ℕ) → a < b → cond (eqb a v || eqb b v) 1 0 ≡ hit v a + hit v b
unfolding hit
one_end a b v h = go (eqb a v) (eqb b v) refl refl
  where
    go : (p q : Bool) → eqb a v ≡ p → eqb b v ≡ q → cond (p || q) 1 0 ≡ cond p 1 0 + cond q 1 0
    go true true d e = absurd (omega (arith, eqb-true a v d, eqb-true b v e))
    go true false d e = refl
    go false true d e = refl
    go false false d e = refl

chosen_once : (b k : ℕ) (t : Bool) → b < 2 → cond t 1 0 ≡ k → cond (eqb b 1 && t) 1 0 ≡ b * k
chosen_once zero k t h e = omega arith
chosen_once (suc zero) k t h e = e ∙ sym (one-mul k)
chosen_once (suc (suc b)) k t h e = absurd (omega arith)

module _ (es : List Simplex) (m : ℕ) (ends : Ends m es) where
  pub meeting_degree : (x v : ℕ) → meeting es x v ≡ degree (hit v) es x (length es)
  unfolding meeting degree chosen touches both
  meeting_degree x v =
      keep_total (λ e. chosen x e && touches (get_or es e []) v) (length es)
      ∙ total_same (λ e. cond (chosen x e && touches (get_or es e []) v) 1 0) (λ e. bit x e * both (hit v) (get_or es e [])) (length es)
      (λ e l. chosen_once (bit x e) _ (touches (get_or es e []) v) (bit_below x e) (one_end (start (get_or es e [])) (end (get_or es e [])) v (ends e l).0))

-- ---- even at each vertex, even under every weight
spread : (b c p q r s : ℕ) → b < 2 → b * ((p + c * r) + (q + c * s)) ≡ b * (p + q) + c * (b * (r + s))
spread zero c p q r s h = omega (arith, ap (λ (k : ℕ). c * k) (zero-mul (r + s)) ∙ mul-zero c)
spread (suc zero) c p q r s h = omega (arith, ap (λ (k : ℕ). c * k) (one-mul (r + s)) ∙ mul-add c r s)
spread (suc (suc b)) c p q r s h = absurd (omega arith)

even_times : (c k : ℕ) → k % 2 ≡ 0 → c * k % 2 ≡ 0
even_times c k h =
    let d : k ≡ k / 2 * 2 = omega arith in
    let e : c * k ≡ c * (k / 2) * 2 = ap (λ (j : ℕ). c * j) d ∙ sym (mul_assoc c (k / 2) 2) in
    omega arith

-- the weights of the vertices below k, summed one vertex at a time
abbrev low : (ℕ → ℕ) → ℕ → ℕ → ℕ
low w k = λ u. total (λ v. w v * hit v u) k

low_all : (w : ℕ → ℕ) (k u : ℕ) → u < k → w u ≡ low w k u
low_all w k u h =
    sym
    (total_one (λ v. w v * hit v u) u k h (λ v l n. ap (λ (j : ℕ). w v * j) (hit_other v u (λ e. n (sym e))) ∙ mul-zero (w v))
    ∙ ap (λ (j : ℕ). w u * j) (hit_self u) ∙ mul-one (w u))

module _ (es : List Simplex) (x : ℕ) where
  degree_plus : (f g : ℕ → ℕ) (c n : ℕ) → degree (λ u. f u + c * g u) es x n ≡ degree f es x n + c * degree g es x n
  unfolding degree total both
  degree_plus f g c zero = omega (arith, mul-zero c)
  degree_plus f g c (suc n) =
      let s = get_or es n [] in
      omega (
        arith,
        degree_plus f g c n,
        spread (bit x n) c (f (start s)) (f (end s)) (g (start s)) (g (end s)) (bit_below x n),
        mul-add c (degree g es x n) (bit x n * both g s),
      )

  low_even : (n m : ℕ) (w : ℕ → ℕ) → ((v : ℕ) → v < m → degree (hit v) es x n % 2 ≡ 0) → (k : ℕ) → k ≤ m → degree (low w k) es x n % 2 ≡ 0
  unfolding degree total both
  low_even n m w h zero l = ap (λ (j : ℕ). j % 2) (total_zero (λ e. bit x e * 0) n (λ e k. mul-zero (bit x e)))
  low_even n m w h (suc k) l =
      omega (
        arith,
        degree_plus (low w k) (hit k) (w k) n,
        low_even n m w h k (omega arith),
        even_times (w k) (degree (hit k) es x n) (h k (omega arith)),
      )

  module _ (m : ℕ) (ends : Ends m es) where
    degree_same : (f g : ℕ → ℕ) → ((u : ℕ) → u < m → f u ≡ g u) → degree f es x (length es) ≡ degree g es x (length es)
    unfolding degree both
    degree_same f g h =
        total_same (λ e. bit x e * both f (get_or es e [])) (λ e. bit x e * both g (get_or es e [])) (length es)
        (λ e l. let r = ends e l in ap₂ (λ (p q : ℕ). bit x e * (p + q)) (h _ (lt_trans r.0 r.1)) (h _ r.1))

    pub even_any : ((v : ℕ) → v < m → degree (hit v) es x (length es) % 2 ≡ 0) → Balanced es x
    even_any h w = ap (λ (j : ℕ). j % 2) (degree_same w (low w m) (low_all w m)) ∙ low_even (length es) m w h m (omega arith)

-- ---- even sets
module _ (es : List Simplex) where
  pub balanced_xor : (x y : ℕ) → Balanced es x → Balanced es y → Balanced es (bit_xor x y)
  balanced_xor x y h k w = omega (arith, degree_xor w es x y (length es), h w, k w)

  pub balanced_zero : Balanced es 0
  balanced_zero w = ap (λ (j : ℕ). j % 2) (degree_zero w es (length es))

  -- three edges that join x and y, x and z, y and z
  balanced_triangle : (x y z i j k : ℕ) → i < length es → j < length es → k < length es
      → get_or es i [] ≡ x ∷ y ∷ [] → get_or es j [] ≡ x ∷ z ∷ [] → get_or es k [] ≡ y ∷ z ∷ [] → Balanced es (bit_xor (bit_xor (2 ^ i) (2 ^ j)) (2 ^ k))
  unfolding both
  balanced_triangle x y z i j k il jl kl xy xz yz w =
      let n = length es in
      let a : degree w es (2 ^ i) n ≡ w x + w y = degree_power w es i n il ∙ ap (both w) xy in
      let b : degree w es (2 ^ j) n ≡ w x + w z = degree_power w es j n jl ∙ ap (both w) xz in
      let d : degree w es (2 ^ k) n ≡ w y + w z = degree_power w es k n kl ∙ ap (both w) yz in
      omega (arith, degree_xor w es (bit_xor (2 ^ i) (2 ^ j)) (2 ^ k) n, degree_xor w es (2 ^ i) (2 ^ j) n)

module _ (c : Complex) (accepted : Accepted c) where
  pub even_hit : (x : ℕ) → even c x ≡ true → (v : ℕ) → v < c.vertices → degree (hit v) c.edges x (length c.edges) % 2 ≡ 0
  unfolding even
  even_hit x h v l =
      ap (λ (j : ℕ). j % 2) (sym (meeting_degree c.edges c.vertices (accepted_ends c accepted) x v))
      ∙ eqb-true _ 0 (every_at (λ u. eqb (meeting c.edges x u % 2) 0) c.vertices h v l)

  pub hit_even : (x : ℕ) → ((v : ℕ) → v < c.vertices → degree (hit v) c.edges x (length c.edges) % 2 ≡ 0) → even c x ≡ true
  unfolding even
  hit_even x h =
      at_every (λ u. eqb (meeting c.edges x u % 2) 0) c.vertices
      (λ v l. eq-eqb _ 0 (ap (λ (j : ℕ). j % 2) (meeting_degree c.edges c.vertices (accepted_ends c accepted) x v) ∙ h v l))

  pub even_balanced : (x : ℕ) → even c x ≡ true → Balanced c.edges x
  even_balanced x h = even_any c.edges x c.vertices (accepted_ends c accepted) (even_hit x h)

  pub balanced_even : (x : ℕ) → Balanced c.edges x → even c x ≡ true
  balanced_even x h = hit_even x (λ v l. h (hit v))

  pub even_xor : (x y : ℕ) → even c x ≡ true → even c y ≡ true → even c (bit_xor x y) ≡ true
  even_xor x y h k = balanced_even (bit_xor x y) (balanced_xor c.edges x y (even_balanced x h) (even_balanced y k))

  pub even_zero : even c 0 ≡ true
  even_zero = balanced_even 0 (balanced_zero c.edges)

  -- so a flip of a triangle's three edges keeps a set even
  pub even_triangle : (t i j k : ℕ) → t < length c.triangles → sides c t ≡ i ∷ j ∷ k ∷ [] → even c (bit_xor (bit_xor (2 ^ i) (2 ^ j)) (2 ^ k)) ≡ true
  even_triangle t i j k l h =
      let s = triangle_sides c accepted t l in
      let e : s.i ∷ s.j ∷ s.k ∷ [] ≡ i ∷ j ∷ k ∷ [] = sym s.numbers ∙ h in
      ap (λ (l : List ℕ). even c (bit_xor (bit_xor (2 ^ get_or l 0 0) (2 ^ get_or l 1 0)) (2 ^ get_or l 2 0))) (sym e)
      ∙ balanced_even _ (balanced_triangle c.edges s.x s.y s.z s.i s.j s.k s.i_below s.j_below s.k_below s.xy s.xz s.yz)
