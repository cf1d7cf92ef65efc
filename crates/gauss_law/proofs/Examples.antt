-- Trees and listings computed.
use Prim.Native.Nat.{ℕ}
use mathlib.Core.List.{[], ◌∷◌, flat_map}
use mathlib.Core.Path.{◌≡◌, refl}
use lib.IntN.{ℤ, pos, negsuc}
use lib.ListN.{get_or, length}
use Rattle.mathematics.specs.Integers.{equal}
use Rattle.mathematics.specs.Lists.{listed, position}
use Rattle.mathematics.specs.Tests.{every}
use Rattle.mathematics.specs.Counting.{below, keep, counted}
use Rattle.complex.specs.Complex.{Complex, uncharged}
use Rattle.complex.specs.Search.{whole_search, served, serve, scan, look, touches, across}
use Rattle.gauss_law.specs.Gauss.{flow, gauss, lawful}
use Rattle.gauss_law.specs.Listing.{tree_edges, free_edges, values, placed, listing}

triangle : Complex
triangle = record { vertices = 3; edges = (0 ∷ 1 ∷ []) ∷ (0 ∷ 2 ∷ []) ∷ (1 ∷ 2 ∷ []) ∷ []; triangles = []; charges = uncharged }

tree : tree_edges triangle ≡ 0 ∷ 1 ∷ []
unfolding triangle tree_edges listed whole_search served serve scan look touches across
tree = refl

free : free_edges triangle ≡ 2 ∷ []
unfolding triangle tree_edges free_edges listed below keep whole_search served serve scan look touches across
free = refl

three_states : listing triangle uncharged 1
    ≡ (negsuc 0 ∷ pos 1 ∷ negsuc 0 ∷ []) ∷ (pos 0 ∷ pos 0 ∷ pos 0 ∷ []) ∷ (pos 1 ∷ negsuc 0 ∷ pos 1 ∷ []) ∷ []
unfolding triangle listing tree_edges free_edges values placed lawful gauss flow equal listed position every below keep counted flat_map whole_search served serve scan look touches across
three_states = refl

-- charge 1 at the last vertex and -1 at the first
charges : ℕ → ℤ
charges v = get_or (negsuc 0 ∷ pos 0 ∷ pos 1 ∷ []) v (pos 0)

two_states : listing triangle charges 1 ≡ (pos 0 ∷ pos 1 ∷ pos 0 ∷ []) ∷ (pos 1 ∷ pos 0 ∷ pos 1 ∷ []) ∷ []
unfolding triangle charges listing tree_edges free_edges values placed lawful gauss flow equal listed position every below keep counted flat_map whole_search served serve scan look touches across
two_states = refl

-- where the charges do not add to zero there is no state
no_state : listing triangle (λ v. pos 1) 1 ≡ []
unfolding triangle listing tree_edges free_edges values placed lawful gauss flow equal listed position every below keep counted flat_map whole_search served serve scan look touches across
no_state = refl

tetrahedron : Complex
tetrahedron = record { vertices = 4; edges = (0 ∷ 1 ∷ []) ∷ (0 ∷ 2 ∷ []) ∷ (0 ∷ 3 ∷ []) ∷ (1 ∷ 2 ∷ []) ∷ (1 ∷ 3 ∷ []) ∷ (2 ∷ 3 ∷ []) ∷ []; triangles = []; charges = uncharged }

fifteen_states : length (listing tetrahedron uncharged 1) ≡ 15
unfolding tetrahedron listing tree_edges free_edges values placed lawful gauss flow equal listed position every below keep counted flat_map whole_search served serve scan look touches across
fifteen_states = refl
