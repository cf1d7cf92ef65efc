-- A shift changes the Gauss sums by one edge's flow, and a triangle's move leaves them.
use Prim.Native.Nat.{ℕ, ◌<◌}
use mathlib.Core.List.{List, [], ◌∷◌}
use mathlib.Core.Bool.{Bool, true, false, cond}
use mathlib.Core.Path.{◌≡◌, refl, sym, ap, ◌∙◌}
use mathlib.Core.Logic.{◌≢◌, inl, inr}
use native.Mathlib.Omega.{arith}
use native.Mathlib.Decide.{ℕ_discrete}
use borrow.Author.Tests.{eq-eqb, ne_eqb}
use lib.Dec.{eqb}
use lib.IntN.{ℤ, pos, neg_ℤ, ◌+ℤ◌, +ℤ_idr, +ℤ_invr}
use lib.ListN.{length, get_or, set, length-set}
use lib.Seq.{get_or-set_same, get_or-set_other, ext_get_or}
use Rattle.mathematics.proofs.Integers.{linear, the, ◌⊞◌, ⊖◌}
use Rattle.complex.specs.Complex.{Simplex, Complex}
use Rattle.complex.specs.Judge.{Accepted}
use Rattle.complex.specs.Sides.{TriangleSides, EdgeOf, side}
use Rattle.complex.proofs.TriangleEdges.{triangle_sides, sides_ij, sides_ik, sides_jk}
use Rattle.gauss_law.specs.Gauss.{flow, gauss, Lawful}
use Rattle.gauss_law.specs.Shifts.{raised, shifted, triangle_move, TriangleMoved}
use Rattle.gauss_law.proofs.Gauss.{flow_zero, flow_sum, flow_past, gauss_set, gauss_split}

-- ---- one edge
module _ (s : List ℤ) (e : ℕ) (d : ℤ) where
  pub shifted_length : length (shifted s e d) ≡ length s
  unfolding shifted
  shifted_length = length-set s e (raised s e d)

  pub shifted_at : e < length s → get_or (shifted s e d) e (pos 0) ≡ raised s e d
  unfolding shifted
  shifted_at h = get_or-set_same s e (raised s e d) (pos 0) h

  pub shifted_elsewhere : (i : ℕ) → i ≢ e → get_or (shifted s e d) i (pos 0) ≡ get_or s i (pos 0)
  unfolding shifted
  shifted_elsewhere i n = get_or-set_other s e i (raised s e d) (pos 0) n

pub gauss_shifted : (es : List Simplex) (s : List ℤ) (e v : ℕ) (d : ℤ) → e < length es → length s ≡ length es
    → gauss es (shifted s e d) v ≡ gauss es s v +ℤ flow (get_or es e []) d v
unfolding shifted raised
gauss_shifted es s e v d h k =
    let E = get_or es e [] in
    let x = get_or s e (pos 0) in
    let G = gauss es (set s e (pos 0)) v in
    let split : gauss es s v ≡ G +ℤ flow E x v = gauss_split es s e v h k in
    gauss_set es s e v (x +ℤ d) h k
    ∙ rw (flow_sum E x d v, split) (linear (the G ⊞ (the (flow E x v) ⊞ the (flow E d v))) (the G ⊞ the (flow E x v) ⊞ the (flow E d v)) (omega arith))

-- ---- a triangle's three
pub triangle_long : (c : Complex) (t : ℕ) (u : ℤ) (s : List ℤ) → length (triangle_move c t u s) ≡ length s
unfolding triangle_move
triangle_long c t u s = simp shifted_length

-- the three flows at a vertex add to nothing
around : (u : ℤ) (x y z v : ℕ) → flow (x ∷ y ∷ []) u v +ℤ flow (x ∷ z ∷ []) (neg_ℤ u) v +ℤ flow (y ∷ z ∷ []) u v ≡ pos 0
around u x y z v =
    let P = flow (x ∷ y ∷ []) u v in
    let Q = flow (x ∷ z ∷ []) (neg_ℤ u) v in
    let R = flow (y ∷ z ∷ []) u v in
    let O = flow (x ∷ z ∷ []) u v in
    let past : P +ℤ R ≡ O = flow_past x y z u v in
    let back : O +ℤ Q ≡ pos 0 = sym (flow_sum (x ∷ z ∷ []) u (neg_ℤ u) v) ∙ ap (λ a. flow (x ∷ z ∷ []) a v) (+ℤ_invr u) ∙ flow_zero (x ∷ z ∷ []) v in
    linear (the P ⊞ the Q ⊞ the R) (the P ⊞ the R ⊞ the Q) (omega arith) ∙ rw past back

module _ (c : Complex) (t : ℕ) (w : TriangleSides c t) (u : ℤ) (s : List ℤ) (long : length s ≡ length c.edges) where
  abbrev once : List ℤ
  once = shifted s w.i u

  abbrev twice : List ℤ
  twice = shifted once w.j (neg_ℤ u)

  abbrev thrice : List ℤ
  thrice = shifted twice w.k u

  move_is : triangle_move c t u s ≡ thrice
  unfolding triangle_move side
  move_is = rw w.numbers

  once_long : length once ≡ length c.edges
  once_long = shifted_length s w.i u ∙ long

  twice_long : length twice ≡ length c.edges
  twice_long = shifted_length once w.j (neg_ℤ u) ∙ once_long

  sum_stays : (v : ℕ) → gauss c.edges (triangle_move c t u s) v ≡ gauss c.edges s v
  sum_stays v =
      let es = c.edges in
      let G = gauss es s v in
      let P = flow (w.x ∷ w.y ∷ []) u v in
      let Q = flow (w.x ∷ w.z ∷ []) (neg_ℤ u) v in
      let R = flow (w.y ∷ w.z ∷ []) u v in
      let first : gauss es once v ≡ G +ℤ P = rw w.xy at (gauss_shifted es s w.i v u w.i_below long) in
      let second : gauss es twice v ≡ gauss es once v +ℤ Q = rw w.xz at (gauss_shifted es once w.j v (neg_ℤ u) w.j_below once_long) in
      let third : gauss es thrice v ≡ gauss es twice v +ℤ R = rw w.yz at (gauss_shifted es twice w.k v u w.k_below twice_long) in
      rw (move_is, third, second, first)
      (linear (the G ⊞ the P ⊞ the Q ⊞ the R) (the G ⊞ (the P ⊞ the Q ⊞ the R)) (omega arith)
      ∙ ap (λ x. G +ℤ x) (around u w.x w.y w.z v)
      ∙ +ℤ_idr G)

  three_moved : TriangleMoved c t u s (triangle_move c t u s)
  unfolding side raised
  three_moved =
      let ij = sides_ij c t w in
      let ik = sides_ik c t w in
      let jk = sides_jk c t w in
      record {
        long = triangle_long c t u s;
        ab =
            rw (move_is, w.numbers)
            (shifted_elsewhere twice w.k u w.i ik
            ∙ shifted_elsewhere once w.j (neg_ℤ u) w.i ij
            ∙ shifted_at s w.i u (rw long w.i_below));
        ac =
            rw (move_is, w.numbers)
            (shifted_elsewhere twice w.k u w.j jk
            ∙ shifted_at once w.j (neg_ℤ u) (rw once_long w.j_below)
            ∙ ap (λ x. x +ℤ neg_ℤ u) (shifted_elsewhere s w.i u w.j (λ h. ij (sym h))));
        bc =
            rw (move_is, w.numbers)
            (shifted_at twice w.k u (rw twice_long w.k_below)
            ∙ ap (λ x. x +ℤ u)
            (shifted_elsewhere once w.j (neg_ℤ u) w.k (λ h. jk (sym h)) ∙ shifted_elsewhere s w.i u w.k (λ h. ik (sym h))));
        others =
            λ e a b d.
            rw move_is
            (shifted_elsewhere twice w.k u e (rw w.numbers at d)
            ∙ shifted_elsewhere once w.j (neg_ℤ u) e (rw w.numbers at b)
            ∙ shifted_elsewhere s w.i u e (rw w.numbers at a));
      }

module _ (c : Complex) (accepted : Accepted c) (t : ℕ) (tl : t < length c.triangles) (u : ℤ) (s : List ℤ) (long : length s ≡ length c.edges) where
  pub triangle_gauss : (v : ℕ) → gauss c.edges (triangle_move c t u s) v ≡ gauss c.edges s v
  triangle_gauss = sum_stays c t (triangle_sides c accepted t tl) u s long

  pub triangle_lawful : (q : ℕ → ℤ) → Lawful c q s → Lawful c q (triangle_move c t u s)
  triangle_lawful q law v h = triangle_gauss v ∙ law v h

  pub triangle_moved : TriangleMoved c t u s (triangle_move c t u s)
  triangle_moved = three_moved c t (triangle_sides c accepted t tl) u s long

-- what the move of triangle t by u adds on edge e
unfoldable pub added : Complex → ℕ → ℤ → ℕ → ℤ
added c t u e = cond (eqb e (side c t 0)) u (cond (eqb e (side c t 1)) (neg_ℤ u) (cond (eqb e (side c t 2)) u (pos 0)))

module _ (c : Complex) (t : ℕ) (u : ℤ) (e : ℕ) where
  -- moving back adds the opposite
  added_back : added c t (neg_ℤ u) e ≡ neg_ℤ (added c t u e)
  unfolding added
  added_back = go (eqb e (side c t 0)) (eqb e (side c t 1)) (eqb e (side c t 2))
    where
      go : (a b d : Bool) → cond a (neg_ℤ u) (cond b (neg_ℤ (neg_ℤ u)) (cond d (neg_ℤ u) (pos 0))) ≡ neg_ℤ (cond a u (cond b (neg_ℤ u) (cond d u (pos 0))))
      go true b d = refl
      go false true d = refl
      go false false true = refl
      go false false false = refl

  -- nothing on any other edge
  pub added_nothing : (EdgeOf c t e → ⊥) → added c t u e ≡ pos 0
  unfolding added
  added_nothing h = rw (ne_eqb e (side c t 0) (λ p. h (inl p)), ne_eqb e (side c t 1) (λ p. h (inr (inl p))), ne_eqb e (side c t 2) (λ p. h (inr (inr p))))

module _ (c : Complex) (accepted : Accepted c) (t : ℕ) (tl : t < length c.triangles) (u : ℤ) where
  pub added_first : added c t u (side c t 0) ≡ u
  unfolding added
  added_first = rw (eq-eqb (side c t 0) (side c t 0) refl)

  pub added_third : added c t u (side c t 2) ≡ u
  unfolding added side
  added_third =
      let w = triangle_sides c accepted t tl in
      rw (w.numbers, ne_eqb w.k w.i (λ h. sides_ik c t w (sym h)), ne_eqb w.k w.j (λ h. sides_jk c t w (sym h)), eq-eqb w.k w.k refl)

  pub triangle_value : (s : List ℤ) → length s ≡ length c.edges → (e : ℕ) → get_or (triangle_move c t u s) e (pos 0) ≡ get_or s e (pos 0) +ℤ added c t u e
  unfolding added
  triangle_value s long e = go (ℕ_discrete e (side c t 0)) (ℕ_discrete e (side c t 1)) (ℕ_discrete e (side c t 2))
    where
      moved : TriangleMoved c t u s (triangle_move c t u s)
      moved = triangle_moved c accepted t tl u s long

      go : Dec (e ≡ side c t 0) → Dec (e ≡ side c t 1) → Dec (e ≡ side c t 2)
          → get_or (triangle_move c t u s) e (pos 0) ≡ get_or s e (pos 0) +ℤ cond (eqb e (side c t 0)) u (cond (eqb e (side c t 1)) (neg_ℤ u) (cond (eqb e (side c t 2)) u (pos 0)))
      go (yes p) q r = rw (eq-eqb e (side c t 0) p, p) moved.ab
      go (no p) (yes q) r = rw (ne_eqb e (side c t 0) p, eq-eqb e (side c t 1) q, q) moved.ac
      go (no p) (no q) (yes r) = rw (ne_eqb e (side c t 0) p, ne_eqb e (side c t 1) q, eq-eqb e (side c t 2) r, r) moved.bc
      go (no p) (no q) (no r) = rw (ne_eqb e (side c t 0) p, ne_eqb e (side c t 1) q, ne_eqb e (side c t 2) r, moved.others e p q r) (sym (+ℤ_idr (get_or s e (pos 0))))

-- moving by -u undoes moving by u
pub move_undone : (c : Complex) → Accepted c → (t : ℕ) → t < length c.triangles → (u : ℤ) (s : List ℤ) → length s ≡ length c.edges → triangle_move c t (neg_ℤ u) (triangle_move c t u s) ≡ s
move_undone c accepted t tl u s long =
    ext_get_or (pos 0) _ s (triangle_long c t (neg_ℤ u) (triangle_move c t u s) ∙ triangle_long c t u s)
    (λ e h. triangle_value c accepted t tl (neg_ℤ u) (triangle_move c t u s) (triangle_long c t u s ∙ long) e
    ∙ rw (triangle_value c accepted t tl u s long e, added_back c t u e)
    (linear (the (get_or s e (pos 0)) ⊞ the (added c t u e) ⊞ ⊖ the (added c t u e)) (the (get_or s e (pos 0))) (omega arith)))
