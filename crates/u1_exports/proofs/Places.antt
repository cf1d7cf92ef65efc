-- The place of a state is small.
use Prim.Native.Nat.{ℕ, ◌<◌, ◌^◌}
use mathlib.Core.List.{List}
use native.Mathlib.Omega.{arith}
use lib.IntN.{ℤ}
use Rattle.complex.specs.Complex.{Complex}
use Rattle.hilbert.specs.Basis.{place, PlaceKnown}

-- a place among few states is small
pub place_small : {c : Complex} {L : ℕ} {s : List ℤ} → PlaceKnown c L s → place c L s < 2 ^ 31
place_small {c} {L} {s} h = let below = h.found.below in let few = h.few in omega arith
