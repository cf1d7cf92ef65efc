-- The Wilson loop along a path, expected in a state that is given by its amplitudes.
use Prim.{Unit}
use Rattle.std.specs.Prelude.{ℕ, zero, suc, List, [], ◌∷◌, ◌++◌, Bool, true, not, ◌&&◌, ◌||◌, cond, eqb, ltb, ℤ, pos, negsuc, Float, get_or, length}
use Rattle.std.specs.Float.{binary64, nan}
use Rattle.std.specs.Float.Ieee.{add, mul}
use Rattle.mathematics.specs.Integers.{equal}
use Rattle.mathematics.specs.Tests.{every_entry}
use Rattle.mathematics.specs.Calls.{Call}
use Rattle.complex.specs.Complex.{Complex}
use Rattle.gauss_law.specs.Gauss.{within}
use Rattle.gauss_law.specs.Listing.{states}
use Rattle.gauss_law.specs.Shifts.{raised, shifted}
use Rattle.enumeration.specs.Enumeration.{basis_tests, short, basis_first}
use Rattle.hilbert.specs.Basis.{in_basis, place}
use Rattle.matrices.specs.Coupling.{float_of}
use Rattle.matrices.specs.Weights.{bounded}

-- a step along a path: an edge and a direction
abbrev pub Step : Type 0
Step = ℕ × ℤ

-- a path, by the list of its edges and that of its directions
unfoldable pub path_of : List ℕ → List ℤ → List Step
path_of [] ds = []
path_of (e ∷ es) [] = []
path_of (e ∷ es) (d ∷ ds) = (e, d) ∷ path_of es ds

-- no step of the walk from s leaves -L to L
unfoldable pub stays : ℕ → List ℤ → List Step → Bool
stays L s [] = true
stays L s (t ∷ w) = within L (raised s t.0 t.1) && stays L (shifted s t.0 t.1) w

-- the configuration that the walk from s reaches
unfoldable pub walked : List ℤ → List Step → List ℤ
walked s [] = s
walked s (t ∷ w) = walked (shifted s t.0 t.1) w

-- where s is listed, the amplitude of state i times that of s is added
unfoldable pub with_reached : Complex → ℕ → List Float → ℕ → List ℤ → Float → Float
with_reached c L a i s sum = cond (in_basis c L s) (add binary64 sum (mul binary64 (get_or a i nan) (get_or a (place c L s) nan))) sum

-- From 0.0, the first states, rising: the walk from a state stops at the first step that leaves -L to L, and adds nothing; otherwise what it
-- reaches adds.
unfoldable pub wilson_sum : Complex → ℕ → List Float → List Step → ℕ → Float
wilson_sum c L a w zero = float_of 0
wilson_sum c L a w (suc i) =
    cond (stays L (get_or (states c L) i []) w) (with_reached c L a i (walked (get_or (states c L) i []) w) (wilson_sum c L a w i)) (wilson_sum c L a w i)

-- of all states
unfoldable pub wilson : Complex → ℕ → List Float → List Step → Float
wilson c L a w = wilson_sum c L a w (length (states c L))

-- ---- the call
-- a step over one of m edges, in the direction 1 or -1
unfoldable pub step_right : ℕ → Step → Bool
step_right m t = ltb t.0 m && (equal t.1 (pos 1) || equal t.1 (negsuc 0))

-- 4, 5, 7 to 10, then 12 where the amplitudes are not one for each state or the path has not as many directions as edges, 13 where a step is
-- not over an edge or not in the direction 1 or -1, 14 where an amplitude is out of its range, and 15 for a list that has too few entries for
-- the basis
abbrev pub wilson_tests : Complex → ℕ → List Float → List ℕ → List ℤ → ℕ → List (ℕ × Bool)
wilson_tests c L a es ds room =
    basis_tests c L
    ++ ((12, not (eqb (length a) (length (states c L))) || not (eqb (length ds) (length es)))
    ∷ (13, not (every_entry (step_right (length c.edges)) (path_of es ds)))
    ∷ (14, not (every_entry bounded a))
    ∷ (15, short c L room)
    ∷ [])

-- wilson_loop: the expectation is told, and the list begins with the basis.
unfoldable pub wilson_call : Complex → ℕ → List Float → List ℕ → List ℤ → List ℤ → Call Float (List ℤ)
wilson_call c L a es ds old =
    record {
      tests = wilson_tests c L a es ds (length old);
      value = wilson c L a (path_of es ds);
      before = old;
      after = basis_first c L old;
      known = Unit {0};
    }
