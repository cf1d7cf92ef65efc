-- Numbers of each width, read and compared.
use Prim.Native.Nat.{ℕ}
use mathlib.Core.List.{List, [], ◌∷◌}
use mathlib.Core.Bool.{true, false}
use mathlib.Core.Path.{◌≡◌, refl}
use lib.IntN.{pos, negsuc}
use lib.Ieee.{nan, fin, binary64, is_nan, nan_bits, of_bits, to_bits}
use Rattle.mathematics.specs.Tests.{every}
use Rattle.mathematics.specs.Counting.{below}
use Rattle.mathematics.specs.Integers.{equal}
use Rattle.recorded.specs.Bytes.{number_at, float_of, numbers_in, u32s, u64s, i8s, i32s, floats, is_whole, holds, holds_bytes, holds_u32s, holds_u64s, holds_i8s, holds_i32s, float_is, holds_floats}

-- ---- read
signed_bytes : i8s (127 ∷ 128 ∷ 255 ∷ []) ≡ pos 127 ∷ negsuc 127 ∷ negsuc 0 ∷ []
unfolding numbers_in number_at below
signed_bytes = refl

-- the last byte is no whole number
words : u32s (1 ∷ 2 ∷ 0 ∷ 0 ∷ 7 ∷ []) ≡ 513 ∷ []
unfolding numbers_in number_at below
words = refl

signed_words : i32s (254 ∷ 255 ∷ 255 ∷ 255 ∷ 0 ∷ 0 ∷ 1 ∷ 0 ∷ []) ≡ negsuc 1 ∷ pos 65536 ∷ []
unfolding numbers_in number_at below
signed_words = refl

long_words : u64s (0 ∷ 1 ∷ 0 ∷ 0 ∷ 1 ∷ 0 ∷ 0 ∷ 0 ∷ []) ≡ 4294967552 ∷ []
unfolding numbers_in number_at below
long_words = refl

-- the bytes of 1.5, of 0.0, of -0.0 and of a NaN
abbrev one_and_a_half : List ℕ
one_and_a_half = 0 ∷ 0 ∷ 0 ∷ 0 ∷ 0 ∷ 0 ∷ 248 ∷ 63 ∷ []

abbrev zero : List ℕ
zero = 0 ∷ 0 ∷ 0 ∷ 0 ∷ 0 ∷ 0 ∷ 0 ∷ 0 ∷ []

abbrev minus_zero : List ℕ
minus_zero = 0 ∷ 0 ∷ 0 ∷ 0 ∷ 0 ∷ 0 ∷ 0 ∷ 128 ∷ []

abbrev not_a_number : List ℕ
not_a_number = 0 ∷ 0 ∷ 0 ∷ 0 ∷ 0 ∷ 0 ∷ 248 ∷ 127 ∷ []

read_half : floats one_and_a_half ≡ fin false 3 (negsuc 0) ∷ []
unfolding numbers_in number_at below float_of nan_bits of_bits
read_half = refl

read_nan : floats not_a_number ≡ fin false 0 (pos 0) ∷ []
unfolding numbers_in number_at below float_of nan_bits of_bits
read_nan = refl

-- ---- compared
-- the list may go on behind the bytes
bytes_held : holds_bytes (5 ∷ 6 ∷ 0 ∷ []) (5 ∷ 6 ∷ []) ≡ true
unfolding holds is_whole every number_at
bytes_held = refl

-- but not end before them
bytes_missing : holds_bytes (5 ∷ []) (5 ∷ 6 ∷ []) ≡ false
unfolding holds is_whole every number_at
bytes_missing = refl

sign_differs : holds_i8s (pos 1 ∷ []) (255 ∷ []) ≡ false
unfolding holds is_whole every number_at equal
sign_differs = refl

-- a rest that is no whole number
rest_differs : holds_u32s (513 ∷ []) (1 ∷ 2 ∷ 0 ∷ 0 ∷ 7 ∷ []) ≡ false
unfolding holds is_whole every number_at
rest_differs = refl

signed_held : holds_i32s (negsuc 1 ∷ []) (254 ∷ 255 ∷ 255 ∷ 255 ∷ []) ≡ true
unfolding holds is_whole every number_at equal
signed_held = refl

halves_differ : holds_u64s (4294967552 ∷ []) (1 ∷ 0 ∷ 0 ∷ 0 ∷ 0 ∷ 1 ∷ 0 ∷ 0 ∷ []) ≡ false
unfolding holds is_whole every number_at
halves_differ = refl

float_held : holds_floats (of_bits binary64 0x3ff8_0000_0000_0000 ∷ []) one_and_a_half ≡ true
unfolding holds is_whole every number_at float_is is_nan of_bits to_bits
float_held = refl

zero_held : holds_floats (of_bits binary64 0 ∷ []) zero ≡ true
unfolding holds is_whole every number_at float_is is_nan of_bits to_bits
zero_held = refl

-- 0.0 is not -0.0
zeros_differ : holds_floats (of_bits binary64 0 ∷ []) minus_zero ≡ false
unfolding holds is_whole every number_at float_is is_nan of_bits to_bits
zeros_differ = refl

-- a NaN never agrees, not even with its own pattern
nan_never : holds_floats (nan ∷ []) not_a_number ≡ false
unfolding holds is_whole every number_at float_is is_nan
nan_never = refl
