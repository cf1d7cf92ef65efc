-- No value on any edge.
use Prim.Native.Nat.{ℕ}
use mathlib.Core.Bool.{Bool, true, false}
use mathlib.Core.Path.{◌≡◌, refl}
use native.Mathlib.Omega.{arith}
use borrow.Author.Tests.{ltb-true, ltb-false}
use lib.Dec.{ltb}
use lib.IntN.{pos}
use lib.ListN.{get_or, length, replicate, length-replicate, get_or-replicate, get_or-eq_default}
use Rattle.moves.specs.Moves.{zeros}

pub zeros_long : (m : ℕ) → length (zeros m) ≡ m
unfolding zeros
zeros_long m = length-replicate m (pos 0)

pub zeros_all : (m e : ℕ) → get_or (zeros m) e (pos 0) ≡ pos 0
unfolding zeros
zeros_all m e = go (ltb e m) refl
  where
    go : (b : Bool) → ltb e m ≡ b → get_or (replicate m (pos 0)) e (pos 0) ≡ pos 0
    go true h = get_or-replicate m e (pos 0) (pos 0) (ltb-true e m h)
    go false h = get_or-eq_default (replicate m (pos 0)) (pos 0) {n = e} (omega (arith, length-replicate m (pos 0), ltb-false e m h))
