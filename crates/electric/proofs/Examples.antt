-- The squares of the field, computed on the triangle with L 1, for the amplitudes (1, 2, 3).
use mathlib.Core.List.{List, [], ◌∷◌, flat_map}
use mathlib.Core.Path.{◌≡◌, refl}
use lib.Ieee.{Float, of_int, add, mul}
use Rattle.mathematics.specs.Integers.{equal}
use Rattle.mathematics.specs.Lists.{listed, position}
use Rattle.mathematics.specs.Tests.{every}
use Rattle.mathematics.specs.Counting.{below, keep, counted}
use Rattle.complex.specs.Complex.{Complex, uncharged}
use Rattle.complex.specs.Search.{whole_search, served, serve, scan, look, touches, across}
use Rattle.gauss_law.specs.Gauss.{flow, gauss, lawful}
use Rattle.gauss_law.specs.Listing.{tree_edges, free_edges, values, placed, listing, states}
use Rattle.matrices.specs.Coupling.{float_of}
use Rattle.electric.specs.Electric.{field_term, field_sum, field_squares}

triangle : Complex
triangle = record { vertices = 3; edges = (0 ∷ 1 ∷ []) ∷ (0 ∷ 2 ∷ []) ∷ (1 ∷ 2 ∷ []) ∷ []; triangles = (0 ∷ 1 ∷ 2 ∷ []) ∷ []; charges = uncharged }

amplitudes : List Float
amplitudes = float_of 1 ∷ float_of 2 ∷ float_of 3 ∷ []

-- on each edge the states have -1 or 1, 0, and 1 or -1: 1 + 9
squares : field_squares triangle 1 amplitudes ≡ float_of 10 ∷ float_of 10 ∷ float_of 10 ∷ []
unfolding triangle amplitudes field_squares field_sum field_term states listing tree_edges free_edges values placed lawful gauss flow equal listed position every below keep counted flat_map whole_search served serve scan look touches across float_of of_int add mul
squares = refl
