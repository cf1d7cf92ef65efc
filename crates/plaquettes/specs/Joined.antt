-- Which states the triangles join to a state, and how many: the columns of a row of the matrix besides its diagonal.
use Rattle.std.specs.Prelude.{ℕ, zero, suc, ◌+◌, List, [], ◌∷◌, ◌++◌, Bool, ◌||◌, cond, ℤ, pos, negsuc, length}
use Rattle.mathematics.specs.Tests.{some}
use Rattle.mathematics.specs.Counting.{below, keep}
use Rattle.complex.specs.Complex.{Complex}
use Rattle.gauss_law.specs.Shifts.{triangle_move}
use Rattle.gauss_law.specs.Listing.{states}
use Rattle.plaquettes.specs.Triangle.{sides_within, moved_state, target, hits}

-- triangle t joins the states i and j: its shift takes one of them to the other
abbrev pub joins : Complex → ℕ → ℕ → ℕ → ℕ → Bool
joins c L t i j = hits c L t i j || hits c L t j i

-- the states that some triangle joins to state i, rising
unfoldable pub joined : Complex → ℕ → ℕ → List ℕ
joined c L i = keep (λ j. some (λ t. joins c L t i j) (length c.triangles)) (below (length (states c L)))

-- the number of moves of the first n triangles, by 1 and by -1, that keep the three edges of the triangle within -L to L
unfoldable pub staying : Complex → ℕ → List ℤ → ℕ → ℕ
staying c L s zero = 0
staying c L s (suc t) =
    staying c L s t
    + (cond (sides_within c L t (triangle_move c t (pos 1) s)) 1 0
    + cond (sides_within c L t (triangle_move c t (negsuc 0) s)) 1 0)

-- the target of one move, and none where an edge leaves -L to L
unfoldable pub arrival : Complex → ℕ → ℕ → ℤ → ℕ → List ℕ
arrival c L t u i = cond (sides_within c L t (moved_state c L t u i)) (target c L t u i ∷ []) []

-- the targets of state i, of the first n triangles, each forward and then back
unfoldable pub arrivals : Complex → ℕ → ℕ → ℕ → List ℕ
arrivals c L i zero = []
arrivals c L i (suc t) = arrivals c L i t ++ (arrival c L t (pos 1) i ++ arrival c L t (negsuc 0) i)
