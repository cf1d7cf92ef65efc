-- When a call of the two-valued mode agrees with what was recorded of it: it tells the recorded number, and the lists that were lent to it begin
-- with the recorded numbers. Every list that is lent holds zeros before: 256 masks, and as many entries of a result as each call says.
use Rattle.std.specs.Prelude.{ℕ, Bool, ◌&&◌, List, [], ◌∷◌, ℤ, Float, replicate}
use Rattle.std.specs.Float.{binary64}
use Rattle.std.specs.Float.Ieee.{of_bits}
use Rattle.mathematics.specs.Calls.{Call}
use Rattle.complex.specs.Complex.{Complex}
use Rattle.matrices.specs.declared.coupling.KSParams.{KSParams}
use Rattle.exports.specs.Exports.{on_sheet, value_lent}
use Rattle.recorded.specs.Bytes.{holds_u32s, holds_u64s, holds_floats}
use Rattle.recorded.specs.Answers.{tells, agrees}
use Rattle.su2_masks.specs.Basis.{su2_basis_call, su2_counted_call}
use Rattle.su2_quantum.specs.Dense.{su2_dense_call}
use Rattle.su2_rows.specs.Rows.{su2_rows_call}
use Rattle.su2_entries.specs.Entries.{su2_entries_call}
use Rattle.su2_products.specs.Product.{su2_product_call}
use Rattle.su2_loops.specs.Loop.{su2_loop_call, su2_passes_call}

-- the masks that are lent
abbrev blank : List ℕ
blank = replicate 256 0

-- as many floats that are lent
abbrev blanks : ℕ → List Float
blanks n = replicate n (of_bits binary64 0)

unfoldable pub su2_basis_agrees : (sheet : List ℕ) (told : ℤ) (masks : List ℕ) → Bool
su2_basis_agrees sheet told masks = agrees (on_sheet sheet (λ c L. su2_basis_call c blank)) told (λ l. holds_u64s l masks)

unfoldable pub su2_counted_agrees : (sheet : List ℕ) (told : ℤ) → Bool
su2_counted_agrees sheet told = tells (on_sheet sheet (λ c L. su2_counted_call c)) told

-- a result of 1,024 entries
unfoldable pub su2_dense_agrees : (sheet : List ℕ) (coupling : KSParams) (given : Bool) (weights : List Float) (told : ℤ) (masks matrix : List ℕ) → Bool
su2_dense_agrees sheet coupling given weights told masks matrix =
    agrees (on_sheet sheet (λ c L. su2_dense_call c coupling given weights blank (blanks 1024))) told
    (λ l. holds_u64s l.0 masks && holds_floats l.1 matrix)

-- 128 starts, 1,024 columns and values
unfoldable pub su2_rows_agrees : (sheet : List ℕ) (coupling : KSParams) (given : Bool) (weights : List Float) (told : ℤ) (masks starts columns values : List ℕ) → Bool
su2_rows_agrees sheet coupling given weights told masks starts columns values =
    agrees (on_sheet sheet (λ c L. su2_rows_call c coupling given weights blank (replicate 128 0) (replicate 1024 0) (blanks 1024))) told
    (λ l. holds_u64s l.0 masks && (holds_u32s l.1 starts && (holds_u32s l.2 columns && holds_floats l.3 values)))

unfoldable pub su2_entries_agrees : (sheet : List ℕ) (told : ℤ) → Bool
su2_entries_agrees sheet told = tells (on_sheet sheet (λ c L. su2_entries_call c)) told

-- a result of 256 entries
unfoldable pub su2_product_agrees : (sheet : List ℕ) (coupling : KSParams) (given : Bool) (weights vector : List Float) (told : ℤ) (masks product : List ℕ) → Bool
su2_product_agrees sheet coupling given weights vector told masks product =
    agrees (on_sheet sheet (λ c L. su2_product_call c coupling given weights vector blank (blanks 256))) told
    (λ l. holds_u64s l.0 masks && holds_floats l.1 product)

-- of either loop: the expectation goes to one float
abbrev either_agrees : (Complex → List Float → List ℕ → List ℕ → Call Float (List ℕ)) → (sheet : List ℕ) (vector : List Float) (path : List ℕ) (told : ℤ) (masks expectation : List ℕ) → Bool
either_agrees call sheet vector path told masks expectation =
    agrees (on_sheet sheet (λ c L. value_lent (call c vector path blank) (of_bits binary64 0))) told
    (λ l. holds_u64s l.0 masks && holds_floats (l.1 ∷ []) expectation)

unfoldable pub su2_loop_agrees : (sheet : List ℕ) (vector : List Float) (path : List ℕ) (told : ℤ) (masks expectation : List ℕ) → Bool
su2_loop_agrees sheet vector path told masks expectation = either_agrees su2_loop_call sheet vector path told masks expectation

unfoldable pub su2_passes_agrees : (sheet : List ℕ) (vector : List Float) (path : List ℕ) (told : ℤ) (masks expectation : List ℕ) → Bool
su2_passes_agrees sheet vector path told masks expectation = either_agrees su2_passes_call sheet vector path told masks expectation
