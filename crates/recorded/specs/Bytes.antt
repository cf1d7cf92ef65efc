-- Numbers and lists in bytes, low byte first, and lists held against them.
use Rattle.std.specs.Prelude.{ℕ, zero, suc, ◌+◌, ◌*◌, ◌/◌, ◌%◌, ◌^◌, min, List, map, Bool, not, ◌&&◌, cond, ◌≡◌, eqb, leb, ℤ, pos, Float, get_or, length, take}
use Rattle.std.specs.Float.{nan, binary64}
use Rattle.std.specs.Float.Ieee.{is_nan, nan_bits, of_bits, to_bits}
use Rattle.std.specs.Int.{w8, w32}
use Rattle.std.proofs.Common.{to_z}
use Rattle.mathematics.specs.Tests.{every}
use Rattle.mathematics.specs.Counting.{below}
use Rattle.mathematics.specs.Integers.{equal}
use Rattle.mathematics.specs.Writing.{front}

-- the number that k bytes hold from a place on; a byte past the end counts as 0
unfoldable pub number_at : ℕ → List ℕ → ℕ → ℕ
number_at zero b at = 0
number_at (suc k) b at = number_at k b at + 256 ^ k * get_or b (at + k) 0

-- the float of a pattern of bits; 0.0 for the pattern of a NaN
unfoldable pub float_of : ℕ → Float
float_of n = cond (nan_bits binary64 n) (of_bits binary64 0) (of_bits binary64 n)

-- ---- lists in bytes
-- the numbers of w bytes each, every one taken in a given way; a rest that is no whole number is left out
unfoldable pub numbers_in : {A : Type 0} → ℕ → (ℕ → A) → List ℕ → List A
numbers_in w taken b = map (λ i. taken (number_at w b (w * i))) (below (length b / w))

abbrev pub u32s : List ℕ → List ℕ
u32s b = numbers_in 4 (λ n. n) b

abbrev pub u64s : List ℕ → List ℕ
u64s b = numbers_in 8 (λ n. n) b

-- signed numbers stand in two's complement
abbrev pub i8s : List ℕ → List ℤ
i8s b = numbers_in 1 (to_z w8) b

abbrev pub i32s : List ℕ → List ℤ
i32s b = numbers_in 4 (to_z w32) b

abbrev pub floats : List ℕ → List Float
floats b = numbers_in 8 float_of b

-- r entries of a list are written over the beginning of another: as many as there are and find room
pub record ReadInto {A : Type 0} (l old new : List A) (r : ℕ) : Type 0 where
  pub count : r ≡ min (length l) (length old)
  pub list : new ≡ front (take r l) old

-- ---- lists held against bytes
-- so many bytes are whole numbers of w bytes, at most as many as there are entries
unfoldable pub is_whole : ℕ → ℕ → ℕ → Bool
is_whole w bytes entries = eqb (bytes % w) 0 && leb (bytes / w) entries

-- The list begins with the numbers that the bytes hold, w bytes each, and the bytes hold nothing else. A test says when an entry is the one of a
-- number.
unfoldable pub holds : {A : Type 0} → ℕ → (A → ℕ → Bool) → A → List A → List ℕ → Bool
holds w is d l b = is_whole w (length b) (length l) && every (λ i. is (get_or l i d) (number_at w b (w * i))) (length b / w)

abbrev pub holds_bytes : List ℕ → List ℕ → Bool
holds_bytes l b = holds 1 eqb 0 l b

abbrev pub holds_u32s : List ℕ → List ℕ → Bool
holds_u32s l b = holds 4 eqb 0 l b

abbrev pub holds_u64s : List ℕ → List ℕ → Bool
holds_u64s l b = holds 8 eqb 0 l b

abbrev pub holds_i8s : List ℤ → List ℕ → Bool
holds_i8s l b = holds 1 (λ x n. equal x (to_z w8 n)) (pos 0) l b

abbrev pub holds_i32s : List ℤ → List ℕ → Bool
holds_i32s l b = holds 4 (λ x n. equal x (to_z w32 n)) (pos 0) l b

-- a float is the one of a pattern of bits: a NaN never is, and 0.0 and -0.0 differ
unfoldable pub float_is : Float → ℕ → Bool
float_is x n = not (is_nan x) && eqb (to_bits binary64 x) n

abbrev pub holds_floats : List Float → List ℕ → Bool
holds_floats l b = holds 8 float_is nan l b
