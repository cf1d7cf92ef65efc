-- Gauss's law on a complex (Kogut and Susskind 1975): a whole number on each edge, and at each vertex a sum that its charge fixes.
use Rattle.std.specs.Prelude.{ℕ, ◌<◌, ◌≤◌, List, [], ◌∷◌, Bool, cond, ◌≡◌, eqb, leb, ℤ, pos, ◌+ℤ◌, ◌-ℤ◌, nat_abs, get_or, length}
use Rattle.mathematics.specs.Integers.{equal}
use Rattle.mathematics.specs.Tests.{every}
use Rattle.complex.specs.Complex.{Simplex, Complex, start, end}

-- what an edge with value x adds to the sum at vertex v: x where it ends, less x where it starts
unfoldable pub flow : Simplex → ℤ → ℕ → ℤ
flow e x v = cond (eqb (end e) v) x (pos 0) -ℤ cond (eqb (start e) v) x (pos 0)

-- the Gauss sum at vertex v of the values on the edges; a value that is missing counts 0
unfoldable pub gauss : List Simplex → List ℤ → ℕ → ℤ
gauss [] s v = pos 0
gauss (e ∷ es) [] v = pos 0
gauss (e ∷ es) (x ∷ s) v = flow e x v +ℤ gauss es s v

-- the law: the Gauss sum at every vertex, what ends there less what starts there, is the charge of the vertex
abbrev pub Lawful : Complex → (ℕ → ℤ) → List ℤ → Type 0
Lawful c q s = (v : ℕ) → v < c.vertices → gauss c.edges s v ≡ q v

-- the law as a test
unfoldable pub lawful : Complex → (ℕ → ℤ) → List ℤ → Bool
lawful c q s = every (λ v. equal (gauss c.edges s v) (q v)) c.vertices

-- a value within -L to L, as a test
unfoldable pub within : ℕ → ℤ → Bool
within L x = leb (nat_abs x) L

-- a state: a value within -L to L on each edge, and the law for the charges q
pub record State (c : Complex) (q : ℕ → ℤ) (L : ℕ) (s : List ℤ) : Type 0 where
  pub sized : length s ≡ length c.edges
  pub within : (e : ℕ) → e < length c.edges → nat_abs (get_or s e (pos 0)) ≤ L
  pub law : Lawful c q s
