-- One turn of the loops that judge the lists, and the limit of the values.
use Prim.Native.Nat.{ℕ, ◌+◌, ◌^◌, ◌<◌}
use mathlib.Core.List.{List}
use mathlib.Core.Bool.{Bool, ◌&&◌}
use mathlib.Core.Path.{◌≡◌, refl, ap, ◌∙◌}
use native.Mathlib.Numerals.{add-one}
use lib.Dec.{leb}
use lib.Ieee.{binary64, of_int, of_bits}
use lib.ListN.{length, get_or, take}
use Rattle.mathematics.specs.Tests.{every_entry, every}
use Rattle.mathematics.proofs.Front.{take_next}
use Rattle.mathematics.proofs.Tests.{all_last}
use Rattle.matrices.specs.Coupling.{float_of}
use Rattle.matvec.specs.Product.{never_falls}

pub falls_next : (starts : List ℕ) (i : ℕ) → never_falls starts (i + 1) ≡ (never_falls starts i && leb (get_or starts i 0) (get_or starts (i + 1) 0))
unfolding never_falls every
falls_next starts i = ap (never_falls starts) (add-one i)

pub all_next : {A : Type 0} (p : A → Bool) (d : A) (l : List A) (i : ℕ) → i < length l → every_entry p (take (i + 1) l) ≡ (every_entry p (take i l) && p (get_or l i d))
all_next p d l i h = ap (every_entry p) (take_next l i d h) ∙ all_last p (take i l) (get_or l i d)

pub largest_value : of_bits binary64 0x44F0000000000000 ≡ float_of (2 ^ 80)
unfolding float_of of_int of_bits
largest_value = refl
