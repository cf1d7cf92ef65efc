-- The edges of a triangle of an accepted complex: each is listed, they differ, and they are no other triangle's.
use Prim.Native.Nat.{ℕ, ◌<◌}
use mathlib.Core.List.{List, [], ◌∷◌}
use mathlib.Core.Path.{◌≡◌, refl, sym}
use mathlib.Core.Logic.{◌≢◌, ◌⊎◌, inl, inr}
use native.Mathlib.Omega.{arith}
use native.Mathlib.Decide.{dec_lt, ℕ_discrete}
use lib.ListN.{get_or, length}
use Rattle.mathematics.specs.Lists.{same, position, choose, In}
use Rattle.mathematics.proofs.Lists.{lists_equal, place_at}
use Rattle.complex.specs.Complex.{Simplex, Complex}
use Rattle.complex.specs.Judge.{Accepted}
use Rattle.complex.specs.Sides.{sides, side, EdgeOf, TriangleSides, EdgeSetsDiffer}
use Rattle.complex.proofs.Accepting.{at_in}

-- what is in the list stands at its place
in_place : (s : Simplex) (l : List Simplex) → In [] s l → (position same s l < length l) × (get_or l (position same s l) [] ≡ s)
in_place s l h = place_at same lists_equal [] s l (at_in s l h)

-- the edges of triangle (x, y, z), each at its place
pub three_sides : (c : Complex) (t x y z : ℕ) → get_or c.triangles t [] ≡ x ∷ y ∷ z ∷ []
    → sides c t ≡ position same (x ∷ y ∷ []) c.edges ∷ position same (x ∷ z ∷ []) c.edges ∷ position same (y ∷ z ∷ []) c.edges ∷ []
unfolding sides choose
three_sides c t x y z h = rw h

pub triangle_sides : (c : Complex) → Accepted c → (t : ℕ) → t < length c.triangles → TriangleSides c t
triangle_sides c accepted t tl =
    let s = accepted.triangle_is (get_or c.triangles t []) (t, tl, refl) in
    let p = in_place (s.0 ∷ s.1 ∷ []) c.edges s.7 in
    let q = in_place (s.0 ∷ s.2 ∷ []) c.edges s.8 in
    let r = in_place (s.1 ∷ s.2 ∷ []) c.edges s.9 in
    record {
      x = s.0;
      y = s.1;
      z = s.2;
      i = position same (s.0 ∷ s.1 ∷ []) c.edges;
      j = position same (s.0 ∷ s.2 ∷ []) c.edges;
      k = position same (s.1 ∷ s.2 ∷ []) c.edges;
      triangle = s.3;
      first_rise = s.4;
      second_rise = s.5;
      numbers = three_sides c t s.0 s.1 s.2 s.3;
      i_below = p.0;
      j_below = q.0;
      k_below = r.0;
      xy = p.1;
      xz = q.1;
      yz = r.1;
    }

-- its edges differ
module _ (c : Complex) (t : ℕ) (s : TriangleSides c t) where
  pub sides_ij : s.i ≢ s.j
  sides_ij h = let e : s.y ≡ s.z = cc in omega arith

  pub sides_ik : s.i ≢ s.k
  sides_ik h = let e : s.x ≡ s.y = cc in omega arith

  pub sides_jk : s.j ≢ s.k
  sides_jk h = let e : s.x ≡ s.y = cc in omega arith

module _ (c : Complex) (t : ℕ) where
  pub edge_of : (e : ℕ) → Dec (EdgeOf c t e)
  edge_of e = go (ℕ_discrete e (side c t 0)) (ℕ_discrete e (side c t 1)) (ℕ_discrete e (side c t 2))
    where
      go : Dec (e ≡ side c t 0) → Dec (e ≡ side c t 1) → Dec (e ≡ side c t 2) → Dec (EdgeOf c t e)
      go (yes p) q r = yes (inl p)
      go (no p) (yes q) r = yes (inr (inl q))
      go (no p) (no q) (yes r) = yes (inr (inr r))
      go (no p) (no q) (no r) = no (λ z. none z)
        where
          none : EdgeOf c t e → ⊥
          none (inl z) = p z
          none (inr (inl z)) = q z
          none (inr (inr z)) = r z

-- a and b are the ends of an edge of triangle (x, y, z)
abbrev Ends : ℕ → ℕ → ℕ → ℕ → ℕ → Type 0
Ends x y z a b = ((a ≡ x) × (b ≡ y)) ⊎ (((a ≡ x) × (b ≡ z)) ⊎ ((a ≡ y) × (b ≡ z)))

ends_of : (c : Complex) (t : ℕ) (s : TriangleSides c t) (e a b : ℕ) → get_or c.edges e [] ≡ a ∷ b ∷ [] → EdgeOf c t e → Ends s.x s.y s.z a b
unfolding side
ends_of c t s e a b is (inl h) = let p : e ≡ s.i = rw s.numbers at h in let q = s.xy in inl ((cc), (cc))
ends_of c t s e a b is (inr (inl h)) = let p : e ≡ s.j = rw s.numbers at h in let q = s.xz in inr (inl ((cc), (cc)))
ends_of c t s e a b is (inr (inr h)) = let p : e ≡ s.k = rw s.numbers at h in let q = s.yz in inr (inr ((cc), (cc)))

-- where (a, b) and (b, d) are two of them, they are (x, y) and (y, z)
ends_rise : (x y z a b d : ℕ) → x < y → y < z → Ends x y z a b → Ends x y z b d → (a ≡ x) × (b ≡ y) × (d ≡ z)
ends_rise x y z a b d h k (inl p) (inl q) = absurd (omega arith)
ends_rise x y z a b d h k (inl p) (inr (inl q)) = absurd (omega arith)
ends_rise x y z a b d h k (inl p) (inr (inr q)) = (p.0, p.1, q.1)
ends_rise x y z a b d h k (inr (inl p)) (inl q) = absurd (omega arith)
ends_rise x y z a b d h k (inr (inl p)) (inr (inl q)) = absurd (omega arith)
ends_rise x y z a b d h k (inr (inl p)) (inr (inr q)) = absurd (omega arith)
ends_rise x y z a b d h k (inr (inr p)) (inl q) = absurd (omega arith)
ends_rise x y z a b d h k (inr (inr p)) (inr (inl q)) = absurd (omega arith)
ends_rise x y z a b d h k (inr (inr p)) (inr (inr q)) = absurd (omega arith)

-- a triangle that has the edges (x, y) and (y, z) of another is that one
pub same_triangle : (c : Complex) → Accepted c → (t t' : ℕ) → t < length c.triangles → t' < length c.triangles → EdgeOf c t' (side c t 0) → EdgeOf c t' (side c t 2) → t ≡ t'
unfolding side
same_triangle c accepted t t' h h' first third = one (dec_lt t t') (dec_lt t' t)
  where
    s : TriangleSides c t
    s = triangle_sides c accepted t h

    s' : TriangleSides c t'
    s' = triangle_sides c accepted t' h'

    vertices : (s.x ≡ s'.x) × (s.y ≡ s'.y) × (s.z ≡ s'.z)
    vertices =
        ends_rise s'.x s'.y s'.z s.x s.y s.z s'.first_rise s'.second_rise
        (ends_of c t' s' s.i s.x s.y s.xy (rw s.numbers at first))
        (ends_of c t' s' s.k s.y s.z s.yz (rw s.numbers at third))

    same : get_or c.triangles t [] ≡ get_or c.triangles t' []
    same = rw (s.triangle, s'.triangle, vertices.0, vertices.1, vertices.2)

    one : Dec (t < t') → Dec (t' < t) → t ≡ t'
    one (yes p) q = absurd (accepted.triangle_once t t' p h' same)
    one (no p) (yes q) = absurd (accepted.triangle_once t' t q h (sym same))
    one (no p) (no q) = omega arith

pub edge_sets_differ : (c : Complex) → Accepted c → EdgeSetsDiffer c
edge_sets_differ c accepted t u number number' shared = same_triangle c accepted t u number number' (shared (side c t 0) (inl refl)) (shared (side c t 2) (inr (inr refl)))
