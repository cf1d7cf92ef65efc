-- Numbers in bytes, low byte first, and floats by their bits.
use Prim.Native.Nat.{ℕ, ◌+◌, ◌%◌, ◌<◌, ◌≤◌}
use Rattle.std.specs.Int.{from_le_bytes, w32, w64}
use Rattle.std.specs.List.{slice_get}
use Rattle.std.specs.Option.{unwrap_or}
use Rattle.std.proofs.lemmas.Option.{unwrap_or-slice_get}
use mathlib.Core.List.{List, [], ◌∷◌}
use mathlib.Core.Bool.{Bool, not}
use mathlib.Core.Path.{◌≡◌}
use native.Mathlib.Omega.{arith}
use borrow.Author.Tests.{lt-ltb, le-ltb}
use lib.Dec.{T, ltb}
use lib.Ieee.{binary64, nan_bits, of_bits}
use lib.Ieee.Bits.{nan_bits_above}
use lib.ListN.{get_or}
use Rattle.recorded.specs.Bytes.{number_at, float_of}

-- ---- unsigned numbers
pub byte_there : (b : List ℕ) (at : ℕ) → unwrap_or (slice_get b at) 0 ≡ get_or b at 0
byte_there b at = unwrap_or-slice_get b at 0

pub one_byte : (b : List ℕ) (at : ℕ) → get_or b at 0 ≡ number_at 1 b at
unfolding number_at
one_byte b at = let none : at + 0 ≡ at = omega arith in rw none (omega arith)

pub four_bytes : (b : List ℕ) (at : ℕ) → from_le_bytes w32 (get_or b at 0 ∷ get_or b (at + 1) 0 ∷ get_or b (at + 2) 0 ∷ get_or b (at + 3) 0 ∷ []) ≡ number_at 4 b at
unfolding number_at
four_bytes b at = let none : at + 0 ≡ at = omega arith in rw none (omega arith)

pub eight_bytes : (b : List ℕ) (at : ℕ) → from_le_bytes w64 (get_or b at 0 ∷ get_or b (at + 1) 0 ∷ get_or b (at + 2) 0 ∷ get_or b (at + 3) 0 ∷ get_or b (at + 4) 0 ∷ get_or b (at + 5) 0 ∷ get_or b (at + 6) 0 ∷ get_or b (at + 7) 0 ∷ []) ≡ number_at 8 b at
unfolding number_at
eight_bytes b at = let none : at + 0 ≡ at = omega arith in rw none (omega arith)

-- ---- floats
-- the test of a NaN's pattern
abbrev tested : ℕ → Bool
tested n = ltb 0x7ff0_0000_0000_0000 (n % 0x8000_0000_0000_0000)

nan_tested : (n : ℕ) → nan_bits binary64 n ≡ tested n
nan_tested n = nan_bits_above binary64 n

pub nan_none : (n : ℕ) → 0x7ff0_0000_0000_0000 < n % 0x8000_0000_0000_0000 → of_bits binary64 0 ≡ float_of n
unfolding float_of
nan_none n h = rw (nan_tested n, lt-ltb _ _ h)

pub no_nan : (n : ℕ) → n % 0x8000_0000_0000_0000 ≤ 0x7ff0_0000_0000_0000 → T (not (nan_bits binary64 n))
no_nan n h = rw (nan_tested n, le-ltb _ _ h) tt

pub float_is_of : (n : ℕ) → n % 0x8000_0000_0000_0000 ≤ 0x7ff0_0000_0000_0000 → of_bits binary64 n ≡ float_of n
unfolding float_of
float_is_of n h = rw (nan_tested n, le-ltb _ _ h)
