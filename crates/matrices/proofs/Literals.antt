-- The float literals of the code are the numbers that they are written for.
use Prim.Native.Nat.{◌^◌}
use mathlib.Core.Path.{◌≡◌, refl}
use lib.Ieee.{binary64, of_int, of_bits, div}
use Rattle.matrices.specs.Coupling.{float_of}

pub zero : of_bits binary64 0 ≡ float_of 0
unfolding float_of of_int of_bits
zero = refl

pub one : of_bits binary64 4607182418800017408 ≡ float_of 1
unfolding float_of of_int of_bits
one = refl

pub two : of_bits binary64 4611686018427387904 ≡ float_of 2
unfolding float_of of_int of_bits
two = refl

pub three : of_bits binary64 4613937818241073152 ≡ float_of 3
unfolding float_of of_int of_bits
three = refl

pub eight : of_bits binary64 4620693217682128896 ≡ float_of 8
unfolding float_of of_int of_bits
eight = refl

pub half : of_bits binary64 4602678819172646912 ≡ div binary64 (float_of 1) (float_of 2)
unfolding float_of of_int of_bits div
half = refl

pub limit : of_bits binary64 4751297606875873280 ≡ float_of (2 ^ 32)
unfolding float_of of_int of_bits
limit = refl
