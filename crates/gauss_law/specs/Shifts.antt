-- Shifts of an assignment: a value added on one edge, and a triangle's three.
use Rattle.std.specs.Prelude.{ℕ, List, ◌≡◌, ◌≢◌, ℤ, pos, neg_ℤ, ◌+ℤ◌, get_or, length, set}
use Rattle.complex.specs.Complex.{Complex}
use Rattle.complex.specs.Sides.{side}

-- the value on an edge after a shift
unfoldable pub raised : List ℤ → ℕ → ℤ → ℤ
raised s e delta = get_or s e (pos 0) +ℤ delta

-- the assignment after a shift
unfoldable pub shifted : List ℤ → ℕ → ℤ → List ℤ
shifted s e delta = set s e (raised s e delta)

-- u, -u and u are added on the edges (a, b), (a, c) and (b, c) of triangle t
unfoldable pub triangle_move : Complex → ℕ → ℤ → List ℤ → List ℤ
triangle_move c t u s = shifted (shifted (shifted s (side c t 0) u) (side c t 1) (neg_ℤ u)) (side c t 2) u

-- s' is s with u more on the edge (a, b) of triangle t, u less on (a, c) and u more on (b, c)
pub record TriangleMoved (c : Complex) (t : ℕ) (u : ℤ) (s s' : List ℤ) : Type 0 where
  pub long : length s' ≡ length s
  pub ab : get_or s' (side c t 0) (pos 0) ≡ get_or s (side c t 0) (pos 0) +ℤ u
  pub ac : get_or s' (side c t 1) (pos 0) ≡ get_or s (side c t 1) (pos 0) +ℤ neg_ℤ u
  pub bc : get_or s' (side c t 2) (pos 0) ≡ get_or s (side c t 2) (pos 0) +ℤ u
  pub others : (e : ℕ) → e ≢ side c t 0 → e ≢ side c t 1 → e ≢ side c t 2 → get_or s' e (pos 0) ≡ get_or s e (pos 0)

-- s' is s with 1 more on (a, b), 1 less on (a, c) and 1 more on (b, c)
abbrev pub TriangleShifted : Complex → ℕ → List ℤ → List ℤ → Type 0
TriangleShifted c t s s' = TriangleMoved c t (pos 1) s s'
