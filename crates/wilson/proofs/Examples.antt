-- Wilson loops, computed on the triangle with L 1, for the amplitudes (1, 2, 3).
use mathlib.Core.List.{List, [], ◌∷◌, flat_map}
use mathlib.Core.Path.{◌≡◌, refl}
use lib.IntN.{pos, negsuc}
use lib.Ieee.{Float, of_int, add, mul}
use Rattle.mathematics.specs.Integers.{equal}
use Rattle.mathematics.specs.Lists.{listed, position}
use Rattle.mathematics.specs.Tests.{every, every_entry}
use Rattle.mathematics.specs.Counting.{below, keep, counted}
use Rattle.complex.specs.Complex.{Complex, uncharged}
use Rattle.complex.specs.Search.{whole_search, served, serve, scan, look, touches, across}
use Rattle.gauss_law.specs.Gauss.{flow, gauss, lawful, within}
use Rattle.gauss_law.specs.Listing.{tree_edges, free_edges, values, placed, listing, states}
use Rattle.gauss_law.specs.Shifts.{raised, shifted}
use Rattle.hilbert.specs.Basis.{in_basis, decided, smaller, comes_before, place}
use Rattle.matrices.specs.Coupling.{float_of}
use Rattle.wilson.specs.Wilson.{stays, walked, with_reached, wilson_sum, wilson}

triangle : Complex
triangle = record { vertices = 3; edges = (0 ∷ 1 ∷ []) ∷ (0 ∷ 2 ∷ []) ∷ (1 ∷ 2 ∷ []) ∷ []; triangles = (0 ∷ 1 ∷ 2 ∷ []) ∷ []; charges = uncharged }

amplitudes : List Float
amplitudes = float_of 1 ∷ float_of 2 ∷ float_of 3 ∷ []

-- the fundamental loop takes each state to the one before it: 2 × 1 + 3 × 2
around : wilson triangle 1 amplitudes ((0, negsuc 0) ∷ (1, pos 1) ∷ (2, negsuc 0) ∷ []) ≡ float_of 8
unfolding triangle amplitudes wilson wilson_sum with_reached stays walked raised shifted within in_basis decided smaller comes_before place states listing tree_edges free_edges values placed lawful gauss flow equal listed position every every_entry below keep counted flat_map whole_search served serve scan look touches across float_of of_int add mul
around = refl

-- an edge there and back: the last state leaves the band at the first step, so that 3 × 3 is not added to 1 × 1 + 2 × 2
there_and_back : wilson triangle 1 amplitudes ((0, pos 1) ∷ (0, negsuc 0) ∷ []) ≡ float_of 5
unfolding triangle amplitudes wilson wilson_sum with_reached stays walked raised shifted within in_basis decided smaller comes_before place states listing tree_edges free_edges values placed lawful gauss flow equal listed position every every_entry below keep counted flat_map whole_search served serve scan look touches across float_of of_int add mul
there_and_back = refl

-- a path that does not close reaches nothing that is listed
open_path : wilson triangle 1 amplitudes ((0, pos 1) ∷ []) ≡ float_of 0
unfolding triangle amplitudes wilson wilson_sum with_reached stays walked raised shifted within in_basis decided smaller comes_before place states listing tree_edges free_edges values placed lawful gauss flow equal listed position every every_entry below keep counted flat_map whole_search served serve scan look touches across float_of of_int add mul
open_path = refl
